pub mod Rows
pub mod Starts
pub mod CallLists
pub mod Kits
pub mod Sheets
