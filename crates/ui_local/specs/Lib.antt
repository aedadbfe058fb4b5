pub mod Mentioned
pub mod Laws
