-- Lemmas of fractions and of any kind.
pub mod Solve
pub mod Ints
pub mod Tests
pub mod Products
pub mod Fracs
pub mod Laws
pub mod Flow
pub mod Answered
pub mod Ops
pub mod Order
pub mod Stand
