pub mod Fuel
pub mod Records
pub mod Entries
pub mod Inputs
