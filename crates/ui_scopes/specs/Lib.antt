pub mod Scopes
pub mod Operands
pub mod Steps
pub mod Local
pub mod Standing
pub mod Growing
