pub mod Answered
pub mod Built
pub mod Growing
pub mod Placed
