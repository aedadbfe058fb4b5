use Rattle.std.proofs.Common.{◌≡◌, ℕ, ◌∙◌, sym, ap, subst, take, drop, List, arith}
use Rattle.std.proofs.lemmas.List.{take_at}
use Rattle.ui_frame.specs.Number.{uint, IsUint}
use Rattle.ui_frame.specs.Laws.{is_uint, uint_again, uint_is, uint_takes}
use Rattle.ui_frame.proofs.Spellings.{begins, cut-uint, uint-cut, uint-never_bool}
use Rattle.ui_frame.proofs.number.one_spelling.Goals as goal

pub returns-clause-grammar : goal.returns-clause-grammar
returns-clause-grammar c n lt = uint_is n lt

pub returns-clause-only : goal.returns-clause-only
returns-clause-only c bytes n lt h = is_uint bytes n h lt

pub returns-clause-begins : goal.returns-clause-begins
returns-clause-begins c = begins

pub returns-clause-read : goal.returns-clause-read
returns-clause-read c bytes n rest lt h = rw (is_uint bytes n h lt) (uint_again n rest lt)

pub returns-clause-found : goal.returns-clause-found
returns-clause-found c bytes x fits e =
    let t = uint_takes bytes x fits e in
    let front : take x.1 bytes ≡ uint x.0 = ap (take x.1) t.parts ∙ take_at (uint x.0) (drop x.1 bytes) x.1 t.len_is in
    (subst (λ (b : List ℕ). IsUint b x.0) (sym front) (uint_is x.0 (omega (arith, t.bound))), omega (arith, t.bound))

pub returns-clause-cut : goal.returns-clause-cut
returns-clause-cut c bytes fits = (cut-uint bytes fits, uint-cut bytes)

pub returns-clause-faults : goal.returns-clause-faults
returns-clause-faults c bytes e = uint-never_bool bytes e
