pub use Rattle.qvt_ocl_words.specs.Operation
pub mod Fits
pub mod Law
pub mod Rows
pub mod Table
pub mod Types
pub mod Typing
