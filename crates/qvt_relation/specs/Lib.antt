pub mod Closure
pub mod Law
