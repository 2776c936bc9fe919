pub mod Refusals
pub mod Benches
