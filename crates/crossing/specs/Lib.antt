pub mod Crossing
pub mod Tables
