pub mod Start
pub mod Law
