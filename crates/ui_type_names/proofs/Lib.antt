pub mod MadeLemmas
pub mod FoundLemmas
