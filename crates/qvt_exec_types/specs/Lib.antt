pub use Rattle.qvt_types_program.specs.Program
pub use Rattle.qvt_types_program.specs.Mappings
pub use Rattle.qvt_meaning.specs.StepTypes
pub use Rattle.qvt_meaning.specs.Readings
pub use Rattle.qvt_meaning.specs.Phrases
pub use Rattle.qvt_meaning.specs.Nodes
pub mod Types
pub mod Post
