pub mod Lists
pub mod Places
pub mod Instances
pub mod Cells
pub mod Members
pub mod Typed
pub mod Added
pub mod Objects
pub mod Holds
pub mod Pushed
pub mod Repeating
pub mod Noting
pub mod Numbered
pub mod Keyed
pub mod Cyclic
pub mod Walks
mod Vectors
