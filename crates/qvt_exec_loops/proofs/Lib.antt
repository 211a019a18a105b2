pub mod Flat
pub mod Scopes
pub mod Stays
pub mod TurnLaw
pub mod TurnLoop
