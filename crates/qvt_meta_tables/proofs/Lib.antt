pub mod Filling
pub mod Marks
pub mod Cyclic
pub mod Searching
pub mod Same
pub mod Words
pub mod Once
