pub mod Calls
pub mod Ran
