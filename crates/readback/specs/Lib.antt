pub mod Reads
pub mod TextSays
pub mod Samples
