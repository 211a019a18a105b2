pub mod Ending
pub mod Ends
pub mod Keyed
pub mod Staying
pub mod Writing
