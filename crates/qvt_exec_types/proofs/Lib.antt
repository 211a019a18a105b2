pub mod Asked
pub mod Formed
pub mod Listed
pub mod Next
pub mod Slices
