pub mod Tokens
pub mod LessNames
pub mod LessExprs
pub mod EndedLoops
