pub mod Number
pub mod Reading
pub mod Laws
pub mod Sections
pub mod Container
pub mod Opening
