pub mod Whole
pub mod Made
pub mod Cyclic
pub mod Counts
pub mod Firsts
pub mod HasName
pub mod NameThere
pub mod NameNumbers
