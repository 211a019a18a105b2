pub mod Least
pub mod Stuck
pub mod ByClass
pub mod Only
pub mod Sets
pub mod Tables
pub mod HowMany
