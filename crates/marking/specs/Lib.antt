pub mod Order
pub mod Keys
pub mod Marks
