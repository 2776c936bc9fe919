-- Fractions, kinds and what holds of them.
pub mod Gcd
pub mod Divisors
pub mod Lowest
pub mod Frac
pub mod Ring
pub mod Kind
pub mod Fault
pub mod Theorems
