-- Each round that changes anything takes a type parameter.
use Rattle.std.proofs.Common.{◌≡◌, ◌⊎◌, inl, inr, ℕ, zero, suc, ◌+◌, ◌<◌, ◌≤◌, Bool, true, false}
use Rattle.std.proofs.Common.{List, [], ◌∷◌, length, replicate, refl, sym, ◌∙◌, ap, arith}
use Rattle.std.proofs.Common.{subst as transport}
use Rattle.std.specs.Prelude.{Option, Some, None, Ok, Err, slice_index_or, slice_set}
use Rattle.ui_types.specs.Ty.{Ty}
use Rattle.ui_types.specs.Decls.{DeclTrees}
use Rattle.ui_infer.specs.Faults.{Infers, ◌>>=◌}
use Rattle.ui_infer.specs.Pairs.{BindingTree}
use Rattle.ui_infer.specs.Bindings.{RoundTree, first_of, with_core, taken_with, turn, turns}
use Rattle.ui_infer.specs.Bindings.{rounds, none_taken}
use Rattle.ui_infer.specs.Laws.{RoundsEnd}
use Rattle.ui_infer.proofs.StepLemmas.{then_ok}
use Rattle.ui_infer.proofs.LoopLemmas.{rounds_idle}

-- how many type parameters aren't taken
abbrev untaken : List Bool → ℕ
untaken [] = 0
untaken (true ∷ bs) = untaken bs
untaken (false ∷ bs) = suc (untaken bs)

untaken_set : (bs : List Bool) (k : ℕ) → slice_index_or bs k true ≡ false
    → suc (untaken (slice_set bs k true)) ≡ untaken bs
untaken_set [] k h = absurd cc
untaken_set (true ∷ bs) zero h = absurd cc
untaken_set (false ∷ bs) zero h = refl
untaken_set (true ∷ bs) (suc k) h = untaken_set bs k h
untaken_set (false ∷ bs) (suc k) h = ap (λ (n : ℕ). suc n) (untaken_set bs k h)

all_taken : (bs : List Bool) (k : ℕ) → untaken bs ≡ 0 → slice_index_or bs k true ≡ true
all_taken [] k h = refl
all_taken (true ∷ bs) zero h = refl
all_taken (false ∷ bs) zero h = absurd (omega arith)
all_taken (true ∷ bs) (suc k) h = all_taken bs k h
all_taken (false ∷ bs) (suc k) h = absurd (omega arith)

untaken_replicate : (n : ℕ) → untaken (replicate n false) ≡ n
untaken_replicate zero = refl
untaken_replicate (suc n) = ap (λ (m : ℕ). suc m) (untaken_replicate n)

-- nothing changed, or a type parameter was taken
abbrev Goes : RoundTree → RoundTree → Type 0
Goes old new = (new ≡ old) ⊎ (untaken new.taken < untaken old.taken)

taken_goes : (ds : DeclTrees) (n k : ℕ) (core : Option Ty) (r r' : RoundTree) (o : Option Ty)
    → slice_index_or r.taken k true ≡ false → taken_with ds n k core r o ≡ Ok r' → Goes r r'
taken_goes ds n k core r r' None h e = inl (let q : r ≡ r' = cc in sym q)
taken_goes ds n k core r r' (Some t) h e = by_core (with_core ds n core t r.entries) refl
  where
    by_core : (m : Infers (List BindingTree)) → with_core ds n core t r.entries ≡ m → Goes r r'
    by_core (Ok es) is =
        let now : RoundTree = record { entries = es; taken = slice_set r.taken k true } in
        let made : taken_with ds n k core r (Some t)
        ≡ Ok now = then_ok (with_core ds n core t r.entries) es
        (λ bs. Ok (record { entries = bs; taken = slice_set r.taken k true })) is in
        let same : now ≡ r' = (let q : Ok now ≡ Ok r' = sym made ∙ e in cc) in
        let less : suc (untaken (slice_set r.taken k true))
        ≡ untaken r.taken = untaken_set r.taken k h in
        inr (transport (λ (x : RoundTree). untaken x.taken < untaken r.taken) same (omega arith))
    by_core (Err fault) is =
        let made : taken_with ds n k core r (Some t)
        ≡ Err fault = ap (λ (m : Infers (List BindingTree)). m
        >>= λ bs. Ok (record { entries = bs; taken = slice_set r.taken k true })) is in
        absurd (let q : Err fault ≡ Ok r' = sym made ∙ e in cc)

turn_goes : (ds : DeclTrees) (n k : ℕ) (core : Option Ty) (r r' : RoundTree) → turn ds n k core r
    ≡ Ok r' → Goes r r'
turn_goes ds n k core r r' e = by_test (slice_index_or r.taken k true) refl
  where
    by_test : (b : Bool) → slice_index_or r.taken k true ≡ b → Goes r r'
    by_test true is = inl (let q : Ok r ≡ Ok r' = rw is at e in let p : r ≡ r' = cc in sym p)
    by_test false is = taken_goes ds n k core r r' (first_of k r.entries) is (rw is at e)

goes_on : (a b c : RoundTree) → Goes a b → Goes b c → Goes a c
goes_on a b c (inl e) (inl f) = inl (f ∙ e)
goes_on a b c (inl e) (inr f) = inr (transport
    (λ (x : RoundTree). untaken c.taken < untaken x.taken) e f)
goes_on a b c (inr e) (inl f) = inr (transport
    (λ (x : RoundTree). untaken x.taken < untaken a.taken) (sym f) e)
goes_on a b c (inr e) (inr f) = inr (omega arith)

after_turn : (ds : DeclTrees) (n k : ℕ) (c : Option Ty) (cs : List (Option Ty)) (r r' : RoundTree)
    → turns ds n k (c ∷ cs) r ≡ Ok r'
    → ((mid : RoundTree) → turns ds n (k + 1) cs mid ≡ Ok r' → Goes mid r') → Goes r r'
after_turn ds n k c cs r r' e rest = by_turn (turn ds n k c r) refl
  where
    by_turn : (m : Infers RoundTree) → turn ds n k c r ≡ m → Goes r r'
    by_turn (Ok mid) is =
        let made : turns ds n k (c ∷ cs) r ≡ turns ds n (k + 1) cs mid = then_ok (turn ds n k c r)
        mid (turns ds n (k + 1) cs) is in
        goes_on r mid r' (turn_goes ds n k c r mid is) (rest mid (sym made ∙ e))
    by_turn (Err fault) is =
        let made : turns ds n k (c ∷ cs) r ≡ Err fault = ap
        (λ (m : Infers RoundTree). m >>= turns ds n (k + 1) cs) is in
        absurd (let q : Err fault ≡ Ok r' = sym made ∙ e in cc)

turns_go : (ds : DeclTrees) (n k : ℕ) (cs : List (Option Ty)) (r r' : RoundTree)
    → turns ds n k cs r ≡ Ok r' → Goes r r'
turns_go ds n k [] r r' e = inl (let q : r ≡ r' = cc in sym q)
turns_go ds n k (c ∷ cs) r r' e = after_turn ds n k c cs r r' e
    (λ mid f. turns_go ds n (k + 1) cs mid r' f)

turns_idle : (ds : DeclTrees) (n k : ℕ) (cs : List (Option Ty)) (r : RoundTree) → untaken r.taken
    ≡ 0 → turns ds n k cs r ≡ Ok r
turns_idle ds n k [] r h = refl
turns_idle ds n k (c ∷ cs) r h =
    let same : turn ds n k c r ≡ Ok r = rw (all_taken r.taken k h) refl in
    then_ok (turn ds n k c r) r (turns ds n (k + 1) cs) same ∙ turns_idle ds n (k + 1) cs r h

after_round : (ds : DeclTrees) (cs : List (Option Ty)) (m : ℕ) (r r' : RoundTree)
    → untaken r.taken ≤ suc m → rounds ds cs (suc m) r ≡ Ok r'
    → ((mid : RoundTree) → untaken mid.taken ≤ m → rounds ds cs m mid ≡ Ok r'
    → turns ds (length cs) 0 cs r' ≡ Ok r')
    → turns ds (length cs) 0 cs r' ≡ Ok r'
after_round ds cs m r r' le e close = by_turns (turns ds (length cs) 0 cs r) refl
  where
    by_goes : (mid : RoundTree) → turns ds (length cs) 0 cs r ≡ Ok mid → rounds ds cs m mid ≡ Ok r'
        → Goes r mid → turns ds (length cs) 0 cs r' ≡ Ok r'
    by_goes mid is rest (inl same) =
        let idle : turns ds (length cs) 0 cs r ≡ Ok r = is
        ∙ ap (λ (x : RoundTree). let o : Infers RoundTree = Ok x in o) same in
        let left : rounds ds cs m r ≡ Ok r = rounds_idle ds cs m r idle in
        let here : rounds ds cs m r ≡ Ok r' = transport
        (λ (x : RoundTree). rounds ds cs m x ≡ Ok r') same rest in
        let met : r ≡ r' = (let q : Ok r ≡ Ok r' = sym left ∙ here in cc) in
        transport (λ (x : RoundTree). turns ds (length cs) 0 cs x ≡ Ok x) met idle
    by_goes mid is rest (inr less) = close mid (omega arith) rest

    by_turns : (o : Infers RoundTree) → turns ds (length cs) 0 cs r ≡ o
        → turns ds (length cs) 0 cs r' ≡ Ok r'
    by_turns (Ok mid) is =
        by_goes mid is (sym (then_ok (turns ds (length cs) 0 cs r) mid (rounds ds cs m) is) ∙ e)
        (turns_go ds (length cs) 0 cs r mid is)
    by_turns (Err fault) is =
        let made : rounds ds cs (suc m) r ≡ Err fault = ap
        (λ (o : Infers RoundTree). o >>= rounds ds cs m) is in
        absurd (let q : Err fault ≡ Ok r' = sym made ∙ e in cc)

rounds_close : (ds : DeclTrees) (cs : List (Option Ty)) (m : ℕ) (r r' : RoundTree)
    → untaken r.taken ≤ m → rounds ds cs m r ≡ Ok r' → turns ds (length cs) 0 cs r' ≡ Ok r'
rounds_close ds cs zero r r' le e =
    let same : r ≡ r' = cc in
    transport (λ (x : RoundTree). turns ds (length cs) 0 cs x ≡ Ok x) same
    (turns_idle ds (length cs) 0 cs r (omega arith))
rounds_close ds cs (suc m) r r' le e = after_round ds cs m r r' le e
    (λ mid l f. rounds_close ds cs m mid r' l f)

pub rounds_end : RoundsEnd
rounds_end ds cores es r e = rounds_close ds cores (length cores) (none_taken cores es) r
    (omega (arith, untaken_replicate (length cores))) e
