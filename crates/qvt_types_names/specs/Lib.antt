pub mod Names
pub mod Sources
