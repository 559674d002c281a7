pub mod Accesses
pub mod Admission
pub mod Rigs
pub mod Stores
pub mod Transitions
