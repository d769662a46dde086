pub mod Digits
pub mod Packing
pub mod Advancing
pub mod Copying
