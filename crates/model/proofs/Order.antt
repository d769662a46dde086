pub mod Places
pub mod Marks
pub mod RulesSound
pub mod SplitMarks
pub mod Mirrored
pub mod Shown
