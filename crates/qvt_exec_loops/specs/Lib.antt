pub mod Laws
pub mod Singles
pub mod Turns
