pub mod Stmts
pub mod Bodies
