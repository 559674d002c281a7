pub mod Solid
pub mod Firsts
pub mod Texts
pub mod Once
