pub mod Words
pub mod Boards
pub mod Policies
pub mod Causes
pub mod Sizes
