pub mod Numerals
pub mod Cuts
pub mod Joins
