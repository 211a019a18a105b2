pub mod LessUnits
pub mod UnitLoops
