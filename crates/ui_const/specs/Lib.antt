pub mod Kinds
pub mod Bits
pub mod Results
pub mod Operators
pub mod Conversions
