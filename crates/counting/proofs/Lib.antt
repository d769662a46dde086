pub mod Joined
pub mod Summed
pub mod Counted
pub mod Charged
pub mod Grouped
pub mod Found
pub mod Passed
pub mod Lists
