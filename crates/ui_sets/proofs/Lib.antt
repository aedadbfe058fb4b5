pub mod Bounds
pub mod Declared
pub mod Fields
pub mod Lacking
