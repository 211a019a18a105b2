pub mod Lends
pub mod Sequences
