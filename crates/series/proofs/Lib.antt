pub mod Replied
pub mod Along
