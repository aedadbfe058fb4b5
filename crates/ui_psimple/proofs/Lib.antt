pub mod Budgets
pub mod NamesIn
