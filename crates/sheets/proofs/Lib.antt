pub mod Putting
pub mod Adding
pub mod Scenarios
pub mod Printing
