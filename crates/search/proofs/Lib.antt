pub mod Openings
pub mod Handing
pub mod Points
pub mod RunTold
pub mod ShowTold
pub mod Wanting
pub mod Demand3
pub mod OneRun
