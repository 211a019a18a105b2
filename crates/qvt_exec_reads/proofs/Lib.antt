pub mod Asked
pub mod Roots
pub mod Fitting
