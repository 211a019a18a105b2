pub mod UnitViews
pub mod Adding
