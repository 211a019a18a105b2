pub mod Join
pub mod JoinModule
pub mod NotesOf
pub mod NotesOfModule
