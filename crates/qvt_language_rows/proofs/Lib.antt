pub mod Ties
pub mod Plain
pub mod Steps
pub mod Primaries
pub mod Leads
pub mod Operands
pub mod Levels
pub mod Statements
pub mod Units
pub mod Whole
pub mod Answers
pub mod Every
pub mod Gives
mod Alike
pub mod Fronts
