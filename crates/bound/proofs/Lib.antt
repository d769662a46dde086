pub mod Lowers
pub mod Evaluations
