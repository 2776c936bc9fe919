pub mod Flowing
pub mod Kept
