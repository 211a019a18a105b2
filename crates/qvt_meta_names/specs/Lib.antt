pub use Rattle.qvt_metamodel.specs.Names
pub mod Named
pub mod Enumerated
pub mod Rooted
