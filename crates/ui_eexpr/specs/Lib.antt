pub mod Uses
pub mod UseLaws
pub mod Codes
pub mod Exprs
