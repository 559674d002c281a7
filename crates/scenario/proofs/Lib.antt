pub mod Onward
pub mod Once
pub mod Rendered
pub mod Whole
pub mod Passed
pub mod Writing
