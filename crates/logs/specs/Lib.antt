pub mod Growth
pub mod LogMuts
pub mod Lines
pub mod Validations
