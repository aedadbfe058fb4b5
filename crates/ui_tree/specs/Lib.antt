pub mod Tree
pub mod View
pub mod Stmt
pub mod StmtView
pub mod Views
pub mod Spots
