pub mod Counts
pub mod Sorted
