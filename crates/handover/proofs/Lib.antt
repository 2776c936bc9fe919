-- Lemmas of the line of a bench.
pub mod Valued
pub mod Lawful
pub mod Rescanned
pub mod Returned
pub mod Rounded
pub mod Shown
