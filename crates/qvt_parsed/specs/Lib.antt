pub mod Parsing
pub mod Parsed
