-- Parts that may be left out are read, or are none.
use Rattle.std.proofs.Common.{◌≡◌, List, length, Some, None, Ok, Err, refl}
use Rattle.std.proofs.lemmas.Bool.{eq-eqb}
use Rattle.ui_grammar.specs.Word.{Word}
use Rattle.ui_parse.specs.Reader.{Reader}
use Rattle.ui_stmts.specs.Common.{maybe}

pub maybe_some : {A : Type 0} (p : Reader A) (ts rest : List Word) (a : A) → p ts ≡ Ok (a, rest) → maybe p ts ≡ Ok (Some a, rest)
unfolding maybe
maybe_some p ts rest a e = rw e refl

-- nothing was taken
pub maybe_none : {A : Type 0} (p : Reader A) (ts : List Word) → p ts ≡ Err ts → maybe p ts ≡ Ok (None, ts)
unfolding maybe
maybe_none p ts e = rw (e, eq-eqb (length ts) (length ts) refl) refl
