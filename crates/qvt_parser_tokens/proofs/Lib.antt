pub mod Depths
pub mod Contents
pub mod Numerals
pub mod Lexings
pub mod Strings
