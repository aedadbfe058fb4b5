pub mod CodeLaws
pub mod ExprLaws
pub mod ExprOuts
