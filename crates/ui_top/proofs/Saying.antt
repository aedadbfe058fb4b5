-- What three writes leave where the first or the second fails.
use Rattle.std.proofs.Common.{◌≡◌, ◌∙◌, ap, ◌++◌, List, [], ℕ, Option, Result, Ok, Err, sym, refl, arith}
use Rattle.std.specs.Prelude.{OnErr}
use Rattle.ui_store.specs.Told.{more, more_none, more_twice}
use Rattle.ui_store.specs.Sinks.{Partly, partly_none, partly_first, partly_next}
use Rattle.ui_store.specs.Views.{SinkView}
use Rattle.ui_top.specs.Scene.{Says}

pub on_err : {A E P : Type 0} (r : Result A E) → P → OnErr r P
on_err (Ok x) p = tt
on_err (Err e) p = p

pub first_fails : (old new : Option (List ℕ)) (a b c : List ℕ) → Partly old new a → Partly old new (a ++ b ++ c)
first_fails old new a b c p = partly_first old new (a ++ b) c (partly_first old new a b p)

pub second_fails : (old mid new : Option (List ℕ)) (a b c : List ℕ) → mid ≡ more old a → Partly mid new b → Partly old new (a ++ b ++ c)
second_fails old mid new a b c e p = partly_first old new (a ++ b) c (partly_next old mid new a b e p)

pub third_fails : (old one two new : Option (List ℕ)) (a b c : List ℕ) → one ≡ more old a → two ≡ more one b → Partly two new c → Partly old new (a ++ b ++ c)
third_fails old one two new a b c p q r = partly_next old two new (a ++ b) c (q ∙ ap (λ o. more o b) p ∙ more_twice old a b) r

pub all_written : (old one two new : Option (List ℕ)) (a b c : List ℕ) → one ≡ more old a → two ≡ more one b → new ≡ more two c → new ≡ more old (a ++ b ++ c)
all_written old one two new a b c p q r = r ∙ ap (λ o. more o c) (q ∙ ap (λ o. more o b) p ∙ more_twice old a b) ∙ more_twice old (a ++ b) c

pub says_nothing : (s : SinkView) → Says [] s s
says_nothing s = record { later = omega arith; whole = λ _. sym (more_none s.written); part = partly_none s.written s.written [] refl }
