pub mod Left
pub mod RunEnd
pub mod Laws
pub mod Conforming
