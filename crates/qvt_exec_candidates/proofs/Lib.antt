pub mod Found
pub mod Under
