pub mod Budgets
pub mod ClauseViews
pub mod LoopTurns
pub mod Steps
pub mod Turning
