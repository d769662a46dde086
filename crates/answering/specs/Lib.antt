pub mod FirstLine
pub mod Answer
pub mod CapShown
pub mod Printing
pub mod Refusing
