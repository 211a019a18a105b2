pub mod Chains
pub mod Costs
pub mod Integers
pub mod Lists
pub mod Read
pub mod Signs
