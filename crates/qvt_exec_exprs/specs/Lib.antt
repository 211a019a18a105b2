pub use Rattle.qvt_meaning.specs.Accepts
pub use Rattle.qvt_meaning.specs.Plain
pub use Rattle.qvt_exec_steps.specs.Means
pub use Rattle.qvt_exec_steps.specs.Units
pub mod Charged
pub mod Gathering
pub mod Numbers
