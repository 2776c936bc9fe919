pub mod Texts
pub mod Lines
pub mod Laws
pub mod Scans
pub mod Takes
pub mod Examples
