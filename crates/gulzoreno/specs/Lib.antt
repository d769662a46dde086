pub mod Figures
pub mod Host
pub mod Promise
