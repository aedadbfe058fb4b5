pub mod Files
pub mod Words
pub mod Rules
pub mod Verdict
