pub mod StmtLaws
