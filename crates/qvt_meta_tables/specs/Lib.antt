pub mod NumberSets
pub mod Tables
pub mod Cycles
pub mod Search
pub mod Placed
