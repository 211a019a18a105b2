pub use Rattle.qvt_types_context.specs.Seen
