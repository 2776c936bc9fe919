-- Lemmas of the three kinds.
pub mod Counted
