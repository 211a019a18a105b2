pub mod Collections
pub mod Each
pub mod Operations
