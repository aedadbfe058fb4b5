pub mod Values
pub mod Objects
pub mod Extensions
pub mod Dictionaries
pub mod DeclLaws
