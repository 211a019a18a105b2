pub mod Arrows
pub mod Before
pub mod Sequences
