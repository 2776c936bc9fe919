pub mod Turns
pub mod Piles
pub mod Parts
pub mod Cut
pub mod Compared
pub mod Owned
pub mod Worked
