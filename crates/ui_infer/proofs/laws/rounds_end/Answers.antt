use Rattle.ui_infer.proofs.RoundLemmas as lemma
use Rattle.ui_infer.proofs.laws.rounds_end.Goals as goal

pub returns : goal.returns
returns c = lemma.rounds_end
