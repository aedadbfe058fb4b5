pub mod Told
pub mod Fronts
pub mod Stages
pub mod Spelled
