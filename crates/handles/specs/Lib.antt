pub mod Answers
pub mod Handles
