pub mod Seen
pub mod Parts
pub mod Forms
pub mod FileResult
pub mod FileLaws
