pub mod Chars
pub mod Finds
pub mod Numerals
