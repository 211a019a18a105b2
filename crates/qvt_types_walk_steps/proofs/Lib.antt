pub mod Binds
pub mod Views
