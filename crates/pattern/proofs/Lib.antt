pub mod Within
pub mod Verdicts
pub mod Passed
pub mod Lines
pub mod Answers
pub mod Words
pub mod Numbers
