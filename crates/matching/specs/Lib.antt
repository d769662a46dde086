pub mod Augmenting
pub mod Starts
