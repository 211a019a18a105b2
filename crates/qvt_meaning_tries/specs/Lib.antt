pub mod Small
pub mod Worked
