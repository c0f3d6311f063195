mod Places
mod Times
mod Wholes
