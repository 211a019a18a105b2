pub mod MetaOf
pub mod Places
pub mod Numbers
pub mod Named
