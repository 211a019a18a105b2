pub mod Charged
pub mod Next
