pub mod Numbered
pub mod Signed
pub mod Counted
