pub mod Passing
pub mod Paired
