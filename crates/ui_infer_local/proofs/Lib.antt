pub mod PairsLocal
pub mod BindingsLocal
