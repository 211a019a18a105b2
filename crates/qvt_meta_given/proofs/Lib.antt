pub mod Sound
pub mod Known
