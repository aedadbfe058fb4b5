pub mod Saying
pub mod Answering
pub mod Running
