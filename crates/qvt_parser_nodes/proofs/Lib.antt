mod SizeForms
mod SizeParts
mod SizeMakers
mod NameParts
mod NameMakers
pub mod Along
mod PlaceForms
mod PlaceParts
mod PlaceMakers
pub mod Whole
