pub mod Bounded
pub mod Conforms
pub mod Filed
pub mod Meant
