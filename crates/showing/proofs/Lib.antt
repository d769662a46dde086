pub mod ReadBack
pub mod Written
