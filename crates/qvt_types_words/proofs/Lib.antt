pub mod Arguments
pub mod Joins
