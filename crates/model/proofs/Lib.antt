pub mod Split
pub mod Bound
pub mod Matching
pub mod Walk
pub mod Order
pub mod Theorems
pub mod State
pub mod Alike
