pub mod MentionLemmas
pub mod UsedLemmas
