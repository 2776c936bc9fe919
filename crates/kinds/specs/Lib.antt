-- The three kinds.
pub mod Fractions
pub mod Thousandths
pub mod Small
pub mod Held
pub mod Smalls
pub mod Lowest
pub mod Reduced
pub mod Counting
