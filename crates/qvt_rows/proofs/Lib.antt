pub mod SetWords
pub mod Pushed
pub mod Handed
