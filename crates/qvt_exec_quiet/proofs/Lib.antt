pub mod Leaving
pub mod Lending
pub mod Walks
