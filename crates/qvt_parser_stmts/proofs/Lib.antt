pub mod StmtLoops
pub mod Members
pub mod Tails
pub mod AfterIf
