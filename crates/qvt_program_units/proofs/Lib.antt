mod Mappings
mod Told
