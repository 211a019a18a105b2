pub use Rattle.qvt_types_program.specs.Program
pub mod Listing
pub mod Index
pub mod Table
