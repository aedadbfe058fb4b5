-- What is known of a type parameter, binding by binding.
use Rattle.std.proofs.Common.{◌≡◌, ℕ, zero, suc, Bool, true, false, ◌+◌, ◌<◌, ◌==◌, ◌≤◌}
use Rattle.std.proofs.Common.{List, [], ◌∷◌, length, drop, refl, ◌∙◌, ap, arith}
use Rattle.std.specs.Prelude.{Option, Some, None}
use Rattle.std.proofs.lemmas.List.{drop_all}
use Rattle.ui_types.specs.Ty.{Ty}
use Rattle.ui_types.specs.Table.{Table}
use Rattle.ui_types.specs.Same.{same_type}
use Rattle.ui_types.proofs.SameLemmas.{type_refl}
use Rattle.ui_infer.specs.Pairs.{BindingTree}
use Rattle.ui_infer.specs.Bindings.{BoundTree, KnownTree, first_of, other_of, other_than, known_of}
use Rattle.ui_infer.specs.Bindings.{known_from, solved, verdict}
use Rattle.ui_infer.specs.declared.binding.Binding.{Binding}
use Rattle.ui_infer.specs.declared.known.Known.{Known}
use Rattle.ui_infer.specs.Shown.{with_binding, shown_bindings, shown_known, all_known}
use Rattle.ui_infer.specs.Shown.{known_at}

-- what is known of the type parameter, with these bindings
abbrev pub noted : ℕ → KnownTree → List BindingTree → KnownTree
noted k u [] = u
noted k u (b ∷ bs) = noted k (with_binding k u b) bs

two_noted : (k : ℕ) (t v : Ty) (bs : List BindingTree)
    → noted k (record { first = Some t; other = Some v }) bs
    ≡ record { first = Some t; other = Some v }
two_noted k t v [] = refl
two_noted k t v (b ∷ bs) = by_number (b.param == k) refl (two_noted k t v bs)
  where
    by_number : (r : Bool) → (b.param == k) ≡ r
        → noted k (record { first = Some t; other = Some v }) bs
        ≡ record { first = Some t; other = Some v }
        → noted k (record { first = Some t; other = Some v }) (b ∷ bs)
        ≡ record { first = Some t; other = Some v }
    by_number true e h = rw e h
    by_number false e h = rw e h

one_noted : (k : ℕ) (t : Ty) (bs : List BindingTree)
    → noted k (record { first = Some t; other = None }) bs
    ≡ record { first = Some t; other = other_of k t bs }
one_noted k t [] = refl
one_noted k t (b ∷ bs) = by_tests (b.param == k) (same_type b.ty t) refl refl (one_noted k t bs)
  where
    by_tests : (r s : Bool) → (b.param == k) ≡ r → same_type b.ty t ≡ s
        → noted k (record { first = Some t; other = None }) bs
        ≡ record { first = Some t; other = other_of k t bs }
        → noted k (record { first = Some t; other = None }) (b ∷ bs)
        ≡ record { first = Some t; other = other_of k t (b ∷ bs) }
    by_tests true true e f h = rw (e, f) h
    by_tests true false e f h = rw (e, f) (two_noted k t b.ty bs)
    by_tests false s e f h = rw e h

other_over : (k : ℕ) (o : Option Ty) (b : BindingTree) (bs : List BindingTree) → (b.param == k)
    ≡ false → other_than k o (b ∷ bs) ≡ other_than k o bs
other_over k None b bs e = refl
other_over k (Some t) b bs e = rw e refl

pub noted_is : (k : ℕ) (bs : List BindingTree) → noted k (record { first = None; other = None }) bs
    ≡ known_of k bs
noted_is k [] = refl
noted_is k (b ∷ bs) = by_number (b.param == k) refl (noted_is k bs)
  where
    by_number : (r : Bool) → (b.param == k) ≡ r
        → noted k (record { first = None; other = None }) bs ≡ known_of k bs
        → noted k (record { first = None; other = None }) (b ∷ bs) ≡ known_of k (b ∷ bs)
    by_number true e h = rw (e, type_refl b.ty, e) (one_noted k b.ty bs)
    by_number false e h = rw (e, other_over k (first_of k bs) b bs e) h

-- no binding is left
pub known_over : (table : Table) (bs : List Binding) (i k : ℕ) (u : KnownTree) → length bs ≤ i
    → noted k u (shown_bindings table (drop i bs))
    ≡ noted k (record { first = None; other = None }) (shown_bindings table bs)
    → u ≡ known_of k (shown_bindings table bs)
known_over table bs i k u h e = (let f = rw (drop_all i bs h) at e in f)
    ∙ noted_is k (shown_bindings table bs)

-- ---- all of them
known_all_from : (table : Table) (ks : List Known) (j n : ℕ) (es : List BindingTree) → length ks
    ≡ n
    → ((k : ℕ) → k < n → shown_known table (known_at ks k) ≡ known_of (j + k) es)
    → all_known table ks ≡ known_from j n es
known_all_from table [] j zero es l h = refl
known_all_from table [] j (suc n) es l h = absurd (omega arith)
known_all_from table (u ∷ us) j zero es l h = absurd (omega arith)
known_all_from table (u ∷ us) j (suc n) es l h =
    let here : j + 0 ≡ j = omega arith in
    let first : shown_known table u ≡ known_of j es = h 0 (omega arith)
    ∙ ap (λ (i : ℕ). known_of i es) here in
    let rest : all_known table us ≡ known_from (j + 1) n es =
    known_all_from table us (j + 1) n es (omega arith)
    (λ k lt. h (suc k) (omega arith) ∙ ap (λ (i : ℕ). known_of i es)
    (let e : j + suc k ≡ (j + 1) + k = omega arith in e)) in
    λ i. first i ∷ rest i

pub known_all : (table : Table) (ks : List Known) (n : ℕ) (es : List BindingTree) → length ks ≡ n
    → ((k : ℕ) → k < n → shown_known table (known_at ks k) ≡ known_of k es) → all_known table ks
    ≡ known_from 0 n es
known_all table ks n es l h = known_all_from table ks 0 n es l
    (λ k lt. h k lt ∙ ap (λ (i : ℕ). known_of i es) (let e : k ≡ 0 + k = omega arith in e))

pub verdict_solved : (table : Table) (ks : List Known) (n : ℕ) (b : BoundTree) → b.differs ≡ None
    → all_known table ks ≡ known_from 0 n b.entries
    → verdict n b ≡ solved (all_known table ks)
verdict_solved table ks n b none all = rw (none, all) refl
