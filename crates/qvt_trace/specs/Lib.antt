pub mod Hashes
pub mod Indexed
pub mod Keys
pub mod Numbers
pub mod Tables
