pub mod Tree
pub mod Written
pub mod Fault
