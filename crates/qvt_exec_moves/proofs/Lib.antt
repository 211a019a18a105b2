pub mod Added
pub mod Appended
pub mod Named
pub mod Present
