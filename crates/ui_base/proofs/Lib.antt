pub mod EntryLemmas
pub mod StepLemmas
