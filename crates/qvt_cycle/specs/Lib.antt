pub mod Counts
pub mod Ready
pub mod Search
pub mod Successors
