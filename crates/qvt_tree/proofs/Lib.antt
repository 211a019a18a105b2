pub mod Numbered
pub mod Pairs
pub mod Same
pub mod SameModule
