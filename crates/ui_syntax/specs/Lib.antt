pub mod Cover
pub mod Types
pub mod Exprs
pub mod Read
pub mod Laws
