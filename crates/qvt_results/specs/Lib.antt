pub mod Bind
