pub mod Values
pub mod Objects
pub mod Roots
pub mod ObjectLaws
