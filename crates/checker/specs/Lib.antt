pub mod Refusals
pub mod Conditions
pub mod Chains
pub mod Jumps
pub mod Checking
pub mod Laws
pub mod Scripts
pub mod Verdict
