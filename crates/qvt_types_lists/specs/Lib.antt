pub use Rattle.qvt_types_groups.specs.Units
pub use Rattle.qvt_types_groups.specs.Signatures
pub use Rattle.qvt_types_groups.specs.Numbers
pub use Rattle.qvt_types_groups.specs.Written
pub use Rattle.qvt_types_groups.specs.Classes
pub mod Same
pub mod Lists
