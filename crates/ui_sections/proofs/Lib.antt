pub mod Fronts
pub mod Steps
pub mod Stages
pub mod Growing
pub mod Counted
pub mod Numbers
