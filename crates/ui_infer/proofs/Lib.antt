mod ShapeLemmas
pub mod PairLemmas
pub mod StepLemmas
pub mod KnownLemmas
pub mod LoopLemmas
pub mod RoundLemmas
pub mod SolutionLemmas
pub mod PushLemmas
pub mod TurnLemmas
pub mod EndLemmas
