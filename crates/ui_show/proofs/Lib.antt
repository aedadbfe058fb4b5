pub mod Joins
pub mod Shown
pub mod Texts
