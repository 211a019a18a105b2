pub mod Index
pub mod Told
pub mod ModelTypes
pub mod Models
pub mod Paths
