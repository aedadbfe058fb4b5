pub mod Aliases
pub mod Lengths
pub mod Tags
