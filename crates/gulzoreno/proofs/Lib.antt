pub mod Bytes
pub mod Places
pub mod Answers
pub mod Walked
pub mod Reading
pub mod Promised
pub mod Refusals
