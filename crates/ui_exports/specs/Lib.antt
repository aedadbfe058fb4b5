pub mod Export
pub mod Constants
pub mod Adding
pub mod Linked
