pub mod Ending
pub mod Conforming
