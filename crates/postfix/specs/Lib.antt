pub mod Located
pub mod Flaws
pub mod Stacks
pub mod Expressions
