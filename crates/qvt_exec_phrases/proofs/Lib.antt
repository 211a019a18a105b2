mod Bound
mod Items
mod Present
