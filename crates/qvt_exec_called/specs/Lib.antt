pub use Rattle.qvt_exec_candidates.specs.Stage
pub mod Routines
