pub mod Room
pub mod Matrix
pub mod Checks
pub mod Splits
pub mod Measures
pub mod Samples
