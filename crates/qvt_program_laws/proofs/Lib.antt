mod Models
mod Units
