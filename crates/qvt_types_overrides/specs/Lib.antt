pub mod Upper
pub mod Odd
pub mod Ranked
pub mod Clashes
