pub mod StmtViews
pub mod Apart
pub mod Pairs
