pub mod EachRow
pub mod Fitting
pub mod Present
pub mod Sound
