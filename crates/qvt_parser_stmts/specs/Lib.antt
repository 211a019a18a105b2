pub mod Pairs
pub mod Views
pub mod Turns
pub mod Brackets
