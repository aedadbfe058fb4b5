pub mod Answers
pub mod Kinds
pub mod Outcome
pub mod Ends
pub mod Scene
pub mod Invocations
