pub mod Conforming
pub mod Inputs
pub mod Law
