pub use Rattle.qvt_exec_invocations.specs.Means
pub use Rattle.qvt_exec_invocations.specs.Units
pub mod Lent
pub mod Loops
