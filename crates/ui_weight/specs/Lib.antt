pub mod Weight
pub mod Parts
