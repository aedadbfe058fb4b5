pub mod Tables
pub mod Uses
pub mod Linked
pub mod Built
pub mod Loops
pub mod Puts
pub mod Marks
