pub mod TypeNames
pub mod Types
pub mod Places
pub mod Faces
pub mod Order
