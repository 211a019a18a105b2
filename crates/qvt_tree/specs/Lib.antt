pub mod ModuleShape
pub mod Same
pub mod SameModule
pub mod SameWords
pub mod Shape
