pub mod Header
pub mod Entries
pub mod Reading
pub mod Computing
pub mod Samples
pub mod SymmetricSamples
