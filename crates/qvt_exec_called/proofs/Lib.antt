mod Lists
pub mod Found
