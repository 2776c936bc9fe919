-- Reading a line, answering it, printing the answer.
pub mod Reading
pub mod Answering
pub mod Texts
pub mod Lines
pub mod Theorems
