pub use Rattle.qvt_types_program.specs.Program
pub mod Faults
pub mod Laws
