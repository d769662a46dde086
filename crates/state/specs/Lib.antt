pub mod Holding
pub mod Legal
pub mod StateBy
pub mod Ready
