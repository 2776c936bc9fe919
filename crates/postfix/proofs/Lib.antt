pub mod Written
pub mod Stacking
