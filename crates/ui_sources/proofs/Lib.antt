pub mod PlaceLemmas
pub mod SourceLemmas
pub mod PathLemmas
pub mod Phases
