pub mod Through
pub mod Meanings
pub mod Fuelled
pub mod Behind
pub mod Asked
