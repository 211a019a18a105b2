pub use Rattle.qvt_types_context.specs.Context
pub use Rattle.qvt_types_context.specs.Accepts
pub use Rattle.qvt_types_context.specs.Seen
pub mod Heads
pub mod Least
