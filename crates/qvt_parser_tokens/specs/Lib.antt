pub mod Depth
pub mod Said
pub mod Text
pub mod Whole
