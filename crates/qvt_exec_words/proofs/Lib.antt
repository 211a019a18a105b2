pub mod Before
pub mod Differing
pub mod Gathering
pub mod KeptOf
pub mod Ranges
pub mod Stable
pub mod Words
