pub mod Counting
pub mod Changed
pub mod Counted
