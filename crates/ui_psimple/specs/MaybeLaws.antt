-- Parts that may be left out, as their reader reads them.
use Rattle.std.proofs.Common.{◌≡◌, Bool, true, false, List, length, nat_eq, Option, Some, None, Result, Ok, Err, refl, sym, ap, subst, ◌∙◌}
use Rattle.std.specs.Option.{option_map}
use Rattle.ui_grammar.specs.Word.{Word}
use Rattle.ui_parse.specs.declared.fault.ParseError.{ParseError}
use Rattle.ui_parse.specs.declared.fault.ParseError.TheVariants.{NoMemory, Fault}
use Rattle.ui_parse.specs.Reader.{Outcome, Reader}
use Rattle.ui_parse.specs.View.{Reads}
use Rattle.ui_stmts.specs.Common.{none_at, maybe_of, maybe}
use Rattle.ui_psimple.specs.Maybe.{NoneAt, OrNone}

no_memory : {A X : Type 0} (see : X → A) (o : Outcome A) (r : Result X ParseError) (left : List Word) → r ≡ Err NoMemory → Reads see o r left
no_memory {A = A} {X = X} see o r left e = subst (λ (r : Result X ParseError). Reads see o r left) (sym e) (wanting o)
  where
    wanting : (o : Outcome A) → Reads see o (Err NoMemory) left
    wanting (Ok p) = tt
    wanting (Err ws) = tt

none_reads : {A X : Type 0} (see : X → A) (b : Bool) (start at : List Word) (r : Result (Option X) ParseError) (left : List Word) → NoneAt b start at r left → Reads (option_map see) (none_at b start at) r left
none_reads {X = X} see true start at r left h = subst (λ (r : Result (Option X) ParseError). Reads (option_map see) (Ok (None, start)) r left) (sym h.0) (refl, h.1)
none_reads {X = X} see false start at r left h = subst (λ (r : Result (Option X) ParseError). Reads (option_map see) (Err at) r left) (sym h.0) h.1

maybe_reads : {A X : Type 0} (see : X → A) (o : Outcome A) (start m : List Word) (x : Result X ParseError) (r : Result (Option X) ParseError) (left : List Word) → Reads see o x m → OrNone start m x r left → Reads (option_map see) (maybe_of start o) r left
maybe_reads {X = X} see (Ok p) start m (Ok y) r left h g = subst (λ (r : Result (Option X) ParseError). Reads (option_map see) (Ok (Some p.0, p.1)) r left) (sym g.0) (ap Some h.0, g.1 ∙ h.1)
maybe_reads see (Ok p) start m (Err NoMemory) r left h g = no_memory (option_map see) (Ok (Some p.0, p.1)) r left g
maybe_reads see (Ok p) start m (Err Fault) r left h g = absurd h
maybe_reads see (Err ws) start m (Ok y) r left h g = absurd h
maybe_reads see (Err ws) start m (Err NoMemory) r left h g = no_memory (option_map see) (maybe_of start (Err ws)) r left g
maybe_reads see (Err ws) start m (Err Fault) r left h g = none_reads see (nat_eq (length ws) (length start)) start ws r left (subst (λ (v : List Word). NoneAt (nat_eq (length v) (length start)) start v r left) h g)

pub maybe_read : {A X : Type 0} (see : X → A) (p : Reader A) (start m : List Word) (x : Result X ParseError) (r : Result (Option X) ParseError) (left : List Word) → Reads see (p start) x m → OrNone start m x r left → Reads (option_map see) (maybe p start) r left
unfolding maybe
maybe_read see p start m x r left h g = maybe_reads see (p start) start m x r left h g
