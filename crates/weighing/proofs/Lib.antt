pub mod Cells
pub mod Conditions
pub mod Taken
