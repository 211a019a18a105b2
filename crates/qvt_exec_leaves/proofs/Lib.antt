pub mod Args
pub mod Ends
pub mod Leaves
pub mod Over
pub mod Signs
