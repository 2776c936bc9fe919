pub mod First
pub mod Numbered
pub mod Fitted
pub mod Called
pub mod Promised
