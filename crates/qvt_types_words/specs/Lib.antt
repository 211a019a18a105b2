pub use Rattle.qvt_metas.specs.Named
pub use Rattle.qvt_metas.specs.Metamodels
pub mod Answers
pub mod OperationNames
pub mod Rulings
pub mod Types
