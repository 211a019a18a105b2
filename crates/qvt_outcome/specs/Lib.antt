pub mod Chain
pub mod Follows
pub mod Outcome
pub mod Plans
pub mod Reported
pub mod Steps
