-- Lemmas of reading and answering.
pub mod Texts
pub mod Exactness
pub mod Stand
