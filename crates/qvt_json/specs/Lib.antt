pub mod Json
pub mod Leaves
pub mod Plain
pub mod Repeated
pub mod Shape
pub mod Steps
