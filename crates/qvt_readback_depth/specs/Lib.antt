pub mod Most
pub mod Law
