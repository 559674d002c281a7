mod Answered
mod Places
mod Whole
