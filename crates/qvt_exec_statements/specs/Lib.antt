pub use Rattle.qvt_exec_phrases.specs.Means
pub mod Arms
pub mod Items
pub mod Puts
