mod Faults
mod Sources
mod Typings
