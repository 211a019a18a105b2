pub mod Expressions
pub mod Levels
pub mod PrintText
pub mod Units
