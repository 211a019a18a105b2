pub mod Raised
pub mod Heads
