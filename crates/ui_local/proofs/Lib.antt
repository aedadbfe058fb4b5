pub mod ConstantsLocal
pub mod NamesLocal
pub mod FormsLocal
pub mod RulesLocal
