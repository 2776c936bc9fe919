pub mod Built
pub mod Calls
pub mod Laws
