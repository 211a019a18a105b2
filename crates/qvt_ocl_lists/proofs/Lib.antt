pub mod CountTables
pub mod ItemLists
pub mod Joined
