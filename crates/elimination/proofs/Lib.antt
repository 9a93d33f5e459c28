mod Places
mod Steps
