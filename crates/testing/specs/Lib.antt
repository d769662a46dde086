pub mod Cases
pub mod Laid
pub mod Patterns
pub mod Turns
