pub mod Texts
pub mod Holdings
pub mod Laws
pub mod Steps
pub mod Streams
