pub mod NeedLemmas
pub mod LinkLemmas
pub mod RangeLemmas
pub mod CycleLemmas
