pub mod MetaForm
pub mod DataOf
