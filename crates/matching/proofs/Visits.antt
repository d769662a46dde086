pub mod Arrays
pub mod Column
pub mod Row
pub mod Starts
