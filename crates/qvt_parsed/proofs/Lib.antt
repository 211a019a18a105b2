pub mod Ends
pub mod Parses
