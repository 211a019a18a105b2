pub mod Along
pub mod Told
