pub mod Gives
pub mod Options
