pub mod Along
pub mod Over
pub mod Starts
pub mod Holding
pub mod Laid
pub mod Ordered
pub mod OfList
