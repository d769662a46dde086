pub mod Visits
pub mod Rows
pub mod Conflicts
