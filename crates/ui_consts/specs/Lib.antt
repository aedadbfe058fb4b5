pub mod Elements
pub mod Record
pub mod Reading
pub mod Size
pub mod Known
pub mod Writing
pub mod Numbering
