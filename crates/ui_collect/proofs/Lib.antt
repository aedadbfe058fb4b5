pub mod StepLemmas
pub mod ListLemmas
pub mod ItemLemmas
pub mod ResultLemmas
