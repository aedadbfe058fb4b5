-- Each String and each file that is given a number is used.
use Rattle.std.proofs.Common.{◌≡◌, ℕ, zero, suc, ◌+◌, ◌<◌, ◌≤◌, Bool, true, false, cond, not, List, [], ◌∷◌, ◌++◌, map, length, get_or, Some, inl, inr, refl, sym, ap, ◌∙◌, subst, arith, lit<}
use Rattle.std.specs.Prelude.{slice_get, nat_eq, ◌||◌}
use Rattle.std.specs.List.{Contains, IsDistinct, flat_map, list_any, position_or_len}
use Rattle.std.proofs.lemmas.Bool.{cases_lt, eqb-true}
use Rattle.std.proofs.lemmas.Grind.{flat_map-append}
use Rattle.std.proofs.lemmas.List.{length-append, map-append}
use Rattle.std.proofs.lemmas.List.Elements.{Contains-append_left, Contains-append_right, Contains-append_cases}
use Rattle.indexmap.specs.IndexSet.{insert_key}
use Rattle.ui_eobj.specs.declared.root.BelowEl.{BelowEl}
use Rattle.ui_consts.specs.Elements.{Entry}
use Rattle.ui_consts.specs.Record.{below_uses, entry_uses}
use Rattle.ui_consts.specs.Numbering.{Covers}

-- ---- one place

one : (p k : ℕ) → p ≡ k → Contains (p ∷ []) k
one p k e = (0, lit< tt, e)

single_is : (p k : ℕ) → Contains (p ∷ []) k → p ≡ k
single_is p k (zero, lt, e) = e
single_is p k (suc i, lt, e) = absurd (omega (arith, lt))

none_at : {X : Type 0} (p : X → Bool) (xs : List X) → list_any p xs ≡ false → position_or_len p xs ≡ length xs
none_at p [] h = refl
none_at p (x ∷ xs) h = by (none_at p xs) (p x) refl h
  where
    by : (list_any p xs ≡ false → position_or_len p xs ≡ length xs) → (b : Bool) → p x ≡ b → (b || list_any p xs) ≡ false → position_or_len p (x ∷ xs) ≡ length (x ∷ xs)
    by rest true e h = absurd cc
    by rest false e h = (let more = rest h in ap (λ t. cond (not t) (1 + position_or_len p xs) 0) e ∙ omega arith)

-- what was inserted has the place that is given
pub covers_new : {X : Type 0} (eq : X → X → Bool) (old new : List X) (key : X) (place : ℕ) → new ≡ insert_key eq old key → place ≡ position_or_len (eq key) old → Covers (place ∷ []) (length old) (length new)
covers_new {X} eq old new key place is at = by (list_any (eq key) old) refl is
  where
    by : (b : Bool) → list_any (eq key) old ≡ b → new ≡ cond b old (old ++ key ∷ []) → Covers (place ∷ []) (length old) (length new)
    by true any e = λ k low high. absurd (omega (arith, ap length e, low, high))
    by false none e = λ k low high. one place k (omega (arith, at, none_at (eq key) old none, ap length e, length-append old (key ∷ []), low, high))

-- nothing was inserted
pub covers_none : (places : List ℕ) (from to : ℕ) → to ≤ from → Covers places from to
covers_none places from to h = λ k low high. absurd (omega (arith, h, low, high))

pub covers_both : (ps qs : List ℕ) (a b c : ℕ) → Covers ps a b → Covers qs b c → Covers (ps ++ qs) a c
covers_both ps qs a b c p q = λ k low high. elim (cases_lt k b) [
  | inl h ↦ Contains-append_left ps qs k (p k low h)
  | inr h ↦ Contains-append_right ps qs k (q k h high)
]

pub covers_by : (qs : List ℕ) (p a b : ℕ) → Contains qs p → Covers (p ∷ []) a b → Covers qs a b
covers_by qs p a b there c = λ k low high. subst (λ (j : ℕ). Contains qs j) (single_is p k (c k low high)) there

some_is : {X : Type 0} (x y : X) → Some x ≡ Some y → x ≡ y
some_is x y h = cc

at_place : (xs : List ℕ) (i d k : ℕ) → slice_get xs i ≡ Some k → get_or xs i d ≡ k
at_place [] i d k e = absurd cc
at_place (x ∷ xs) zero d k e = some_is x k e
at_place (x ∷ xs) (suc i) d k e = at_place xs i d k e

-- a number that is stored is there
pub stored_there : (qs : List ℕ) (i p : ℕ) → i < length qs → (k : ℕ) × (slice_get qs i ≡ Some k) × (nat_eq p k ≡ true) → Contains qs p
stored_there qs i p lt stored = (i, lt, at_place qs i p stored.0 stored.1 ∙ sym (eqb-true p stored.0 stored.2))

-- ---- constants, and packages below

pub more_used : (bs more cs : List ℕ) (es : List Entry) (e : Entry) (a b c : ℕ) → cs ≡ bs ++ more → Covers (bs ++ flat_map entry_uses es) a b → Covers (cs ++ entry_uses e) b c → Covers (cs ++ flat_map entry_uses (es ++ e ∷ [])) a c
more_used bs more cs es e a b c grown before now = λ k low high. elim (cases_lt k b) [
  | inl h ↦ old k (before k low h)
  | inr h ↦ new k (now k h high)
]
  where
    both : flat_map entry_uses (es ++ e ∷ []) ≡ flat_map entry_uses es ++ (entry_uses e ++ [])
    both = flat_map-append entry_uses es (e ∷ [])

    whole : (j : ℕ) → Contains (flat_map entry_uses es ++ (entry_uses e ++ [])) j → Contains (cs ++ flat_map entry_uses (es ++ e ∷ [])) j
    whole j h = Contains-append_right cs (flat_map entry_uses (es ++ e ∷ [])) j (subst (λ (xs : List ℕ). Contains xs j) (sym both) h)

    old : (j : ℕ) → Contains (bs ++ flat_map entry_uses es) j → Contains (cs ++ flat_map entry_uses (es ++ e ∷ [])) j
    old j h = elim (Contains-append_cases bs (flat_map entry_uses es) j h) [
      | inl x ↦ Contains-append_left cs (flat_map entry_uses (es ++ e ∷ [])) j (subst (λ (xs : List ℕ). Contains xs j) (sym grown) (Contains-append_left bs more j x))
      | inr x ↦ whole j (Contains-append_left (flat_map entry_uses es) (entry_uses e ++ []) j x)
    ]

    new : (j : ℕ) → Contains (cs ++ entry_uses e) j → Contains (cs ++ flat_map entry_uses (es ++ e ∷ [])) j
    new j h = elim (Contains-append_cases cs (entry_uses e) j h) [
      | inl x ↦ Contains-append_left cs (flat_map entry_uses (es ++ e ∷ [])) j x
      | inr x ↦ whole j (Contains-append_right (flat_map entry_uses es) (entry_uses e ++ []) j (Contains-append_left (entry_uses e) [] j x))
    ]

pub more_files_used : (es : List Entry) (e : Entry) (b c : ℕ) → Covers (map (λ e. e.base) es) 0 b → Covers (e.base ∷ []) b c → Covers (map (λ e. e.base) (es ++ e ∷ [])) 0 c
more_files_used es e b c before now = subst (λ (xs : List ℕ). Covers xs 0 c) (sym (map-append (λ (x : Entry). x.base) es (e ∷ []))) (covers_both (map (λ e. e.base) es) (e.base ∷ []) 0 b c before now)

pub more_below_used : (bs : List BelowEl) (b : BelowEl) (i j k : ℕ) → Covers (flat_map below_uses bs) i j → Covers (below_uses b) j k → Covers (flat_map below_uses (bs ++ b ∷ [])) i k
more_below_used bs b i j k before now =
    subst (λ (xs : List ℕ). Covers xs i k) (sym (flat_map-append below_uses bs (b ∷ []))) (covers_both (flat_map below_uses bs) (below_uses b ++ []) i j k before (λ n low high. Contains-append_left (below_uses b) [] n (now n low high)))

pub no_files : IsDistinct nat_eq []
unfolding IsDistinct
no_files = tt
