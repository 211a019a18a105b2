mod Arguments
mod Made
mod Marks
