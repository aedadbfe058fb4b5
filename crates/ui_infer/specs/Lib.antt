pub mod Shape
pub mod Pairs
pub mod Faults
pub mod Top
pub mod Bindings
pub mod Shown
pub mod Laws
