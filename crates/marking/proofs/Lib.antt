pub mod Trails
pub mod Orders
pub mod Counts
pub mod Filled
pub mod Marked
pub mod Ordered
pub mod Keyed
pub mod Sorted
