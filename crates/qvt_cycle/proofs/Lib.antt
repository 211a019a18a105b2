pub mod Visits
pub mod Searched
pub mod Falling
pub mod Tests
