pub mod Datums
pub mod Slots
pub mod Members
pub mod Containments
pub mod Written
