pub mod Kinds
pub mod Constants
pub mod Names
pub mod Forms
pub mod Rules
