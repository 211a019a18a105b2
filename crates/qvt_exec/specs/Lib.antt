pub use Rattle.qvt_exec_finish.specs.Comes
pub use Rattle.qvt_exec_finish.specs.Entries
pub use Rattle.qvt_exec_finish.specs.Finish
pub use Rattle.qvt_exec_finish.specs.Patches
pub use Rattle.qvt_exec_finish.specs.Stay
pub mod Calls
pub mod Knot
pub mod Mains
