mod Found
mod Indexed
pub mod Numbers
pub mod Results
mod Same
