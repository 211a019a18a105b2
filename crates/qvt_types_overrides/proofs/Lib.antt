pub mod Parted
pub mod Uppers
pub mod Overriding
pub mod NextTable
pub mod BadAbove
