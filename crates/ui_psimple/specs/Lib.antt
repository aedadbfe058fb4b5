pub mod Seen
pub mod Maybe
pub mod MaybeLaws
pub mod Parts
pub mod StmtViews
