pub use Rattle.qvt_exec_plain.specs.Table
pub mod Answering
pub mod Room
pub mod Weights
