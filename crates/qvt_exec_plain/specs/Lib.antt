pub use Rattle.qvt_program_exprs.specs.Table
pub mod Alone
pub mod Told
