pub mod Models
pub mod Units
