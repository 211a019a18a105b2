pub mod Appended
pub mod Moves
