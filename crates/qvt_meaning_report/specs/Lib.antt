pub mod Meaning
pub mod TraceText
pub mod Lines
