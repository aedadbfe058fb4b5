pub mod PartLemmas
pub mod NodeLemmas
pub mod TableLemmas
pub mod KeyLemmas
pub mod SubstLemmas
pub mod MemoLemmas
pub mod SameLemmas
