pub mod Kinds
pub mod Tied
pub mod Kept
pub mod Moves
