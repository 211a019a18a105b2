pub mod Job
pub mod Parameters
pub mod Names
pub mod Served
