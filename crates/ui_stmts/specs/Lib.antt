pub mod Common
pub mod Simple
pub mod Stmts
pub mod Decls
pub mod Laws
