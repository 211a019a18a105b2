pub use Rattle.qvt_types_choices.proofs.Lowest
pub use Rattle.qvt_types_choices.proofs.ByClass
pub mod Lists
pub mod Firsts
pub mod Keys
pub mod Tables
