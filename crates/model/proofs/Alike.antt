pub mod Patterns
pub mod Splits
pub mod Marks
pub mod Bounds
pub mod Shown
pub mod Calls
