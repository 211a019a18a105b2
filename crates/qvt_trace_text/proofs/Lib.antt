pub mod Names
pub mod Collected
pub mod Whole
pub mod Same
