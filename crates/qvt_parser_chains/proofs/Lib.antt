pub mod Levels
pub mod Heads
pub mod Signs
