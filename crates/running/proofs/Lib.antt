pub mod Lookups
pub mod Looped
pub mod Known
