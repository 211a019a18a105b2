pub mod Firsts
pub mod TextSets
