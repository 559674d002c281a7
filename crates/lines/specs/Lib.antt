pub mod Faults
pub mod Steps
