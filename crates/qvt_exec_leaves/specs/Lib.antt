pub use Rattle.qvt_exec_state.specs.Runs
pub mod Heads
pub mod Leaves
pub mod Signs
