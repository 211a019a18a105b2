pub mod Back
pub mod Each
pub mod Json
pub mod LineFeed
pub mod Ordered
pub mod Trees
pub mod Utf8
