pub mod Lists
pub mod Phrase
pub mod Values
pub mod Rows
pub mod Units
pub mod Language
pub mod Law
