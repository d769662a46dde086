pub mod Cells
pub mod Taking
