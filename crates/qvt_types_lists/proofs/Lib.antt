pub mod Before
pub mod SameUnits
pub mod Told
