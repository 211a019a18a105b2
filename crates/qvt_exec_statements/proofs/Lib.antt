mod Arms
mod Each
mod Turns
