pub mod Answers
pub mod Comes
pub mod Entries
pub mod Finish
pub mod Patches
pub mod Stay
