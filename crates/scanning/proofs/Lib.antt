pub mod Bytes
pub mod Joins
pub mod Scans
