pub mod Tables
pub mod Trees
pub mod FirstPlaces
pub mod Fronts
