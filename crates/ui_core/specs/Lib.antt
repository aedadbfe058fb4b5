pub mod Checked
pub mod Cost
pub mod Mentions
pub mod MentionLaws
pub mod View
pub mod Views
pub mod Bodies
