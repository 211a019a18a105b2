pub mod Laws
pub mod Visited
