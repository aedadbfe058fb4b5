pub mod KnownLemmas
pub mod MapLemmas
