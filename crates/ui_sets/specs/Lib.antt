pub mod Needed
pub mod Sites
pub mod Methods
pub mod Reading
