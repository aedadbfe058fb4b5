pub mod Claims
pub mod Join
pub mod Holding
