pub mod Pushing
pub mod Told
pub mod UsedUp
