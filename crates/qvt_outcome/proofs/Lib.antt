pub mod Chained
pub mod Ended
pub mod Folded
pub mod Refused
pub mod Sent
pub mod Settle
pub mod Written
