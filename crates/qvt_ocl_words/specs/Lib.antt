pub mod Collections
pub mod Integers
pub mod Lists
pub mod Operation
pub mod Strings
