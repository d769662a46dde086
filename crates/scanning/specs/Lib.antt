pub mod Classes
pub mod Lines
pub mod Reals
pub mod Words
pub mod Checks
pub mod Samples
