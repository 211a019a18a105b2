pub use Rattle.qvt_exec_phrases.specs.Means
pub mod Late
