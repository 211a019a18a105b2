mod Kept
mod KeptModule
mod SameTypes
mod Stripped
mod StrippedModule
