pub mod Frames
pub mod FramesStmt
pub mod FramesDecl
pub mod Inverse
mod Cases
mod MoreCases
mod ResultCases
