pub mod Tree
pub mod View
pub mod Strip
pub mod Module
pub mod StripModule
