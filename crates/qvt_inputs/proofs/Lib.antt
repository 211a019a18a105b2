pub mod Faults
pub mod Ids
pub mod Loads
pub mod Apart
