pub mod Fields
pub mod Sorts
pub mod Decoding
pub mod Tables
pub mod Running
