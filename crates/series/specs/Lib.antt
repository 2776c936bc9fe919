pub mod Series
pub mod Promise
