pub mod Nodes
pub mod Names
pub mod Places
pub mod Law
