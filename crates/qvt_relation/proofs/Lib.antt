pub mod Bools
pub mod Closures
