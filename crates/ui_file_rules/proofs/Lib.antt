pub mod Places
pub mod Seeing
pub mod TypesEqual
pub mod TwiceSteps
pub mod Free
