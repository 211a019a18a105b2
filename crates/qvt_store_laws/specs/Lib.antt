pub mod Law
pub mod Place
pub mod Sound
pub mod Stay
