pub mod AsMade
pub mod Law
