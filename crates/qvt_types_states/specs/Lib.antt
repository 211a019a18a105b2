pub mod Does
pub mod Judge
pub mod Scopes
