pub mod Tree
pub mod View
pub mod Module
pub mod Parts
pub mod Resolves
