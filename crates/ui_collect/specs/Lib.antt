pub mod Names
pub mod Lists
pub mod Package
pub mod Items
pub mod Levels
pub mod Views
