pub mod Written
pub mod Writing
pub mod Samples
pub mod Lines
pub mod Page
