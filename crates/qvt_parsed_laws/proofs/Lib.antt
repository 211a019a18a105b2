pub mod Bytes
pub mod Order
pub mod Within
pub mod Written
pub mod Faults
