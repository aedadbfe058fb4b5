pub mod SceneLemmas
