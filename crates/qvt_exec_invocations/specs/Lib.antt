pub use Rattle.qvt_exec_phrases.specs.Means
pub use Rattle.qvt_exec_phrases.specs.Units
