mod Found
mod Places
