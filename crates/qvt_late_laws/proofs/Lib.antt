pub mod Standing
pub mod Carried
pub mod Apart
pub mod Left
