pub mod Mentions
pub mod Used
pub mod Views
