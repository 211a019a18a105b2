pub mod Depth
pub mod Mains
