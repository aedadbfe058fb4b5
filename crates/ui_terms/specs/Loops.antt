-- Loops that answer for each of a list, over a table that grows: what callers use.
use Rattle.std.specs.Prelude.{◌≡◌, List, [], ◌∷◌, map, All, refl}
use Rattle.std.proofs.lemmas.List.Elements.{All-head, All-tail, All-weaker}
use Rattle.ui_types.specs.declared.part.Term.{Term}
use Rattle.ui_types.specs.Table.{Table, Grows}
use Rattle.ui_types.specs.Trees.{growth, IsId-grows}
use Rattle.ui_types.specs.Kept.{keeping}
use Rattle.ui_sets.specs.Needed.{stepping}
use Rattle.ui_terms.specs.declared.own.OwnTerm.{OwnTerm}
use Rattle.ui_terms.specs.Reading.{IsTerm, shown_term, shown_terms, IsOwn, shown_own, AreOwn}
use Rattle.ui_terms.specs.Reading.{shown_owns, AreOwns, shown_unions, reading}

pub term-grows : {t u : Table} (x : Term) → Grows t u → IsTerm t x → shown_term u x ≡ shown_term t x
term-grows x g h = λ i. record { tilde = x.tilde; ty = g.keeps x.ty h i }

pub IsOwn-grows : {t u : Table} (o : OwnTerm) → Grows t u → IsOwn t o → IsOwn u o
IsOwn-grows o g h = record { ty = IsId-grows o.ty g h.ty; under = IsId-grows o.under g h.under }

pub own-grows : {t u : Table} (o : OwnTerm) → Grows t u → IsOwn t o → shown_own u o ≡ shown_own t o
own-grows o g h = λ i. record {
  tilde = o.tilde;
  ty = g.keeps o.ty h.ty i;
  under = g.keeps o.under h.under i;
}

-- lists of what holds ids, in a table that grows
all-grow : {X : Type 0} (Is : Table → X → Type 0) (t u : Table) → ((x : X) → Is t x → Is u x)
    → (xs : List X) → All (Is t) xs → All (Is u) xs
all-grow Is t u one xs h = All-weaker (Is t) (Is u) one xs h

seen-grow : {X Y : Type 0} (Is : Table → X → Type 0) (see : Table → X → Y) (t u : Table)
    → ((x : X) → Is t x → see u x ≡ see t x) → (xs : List X) → All (Is t) xs
    → map (see u) xs ≡ map (see t) xs
seen-grow Is see t u one [] h = refl
seen-grow Is see t u one (x ∷ xs) h = λ i. one x (All-head (Is t) x xs h) i
    ∷ seen-grow Is see t u one xs (All-tail (Is t) x xs h) i

pub terms-grow : {t u : Table} (xs : List Term) → Grows t u → All (IsTerm t) xs → All (IsTerm u) xs
terms-grow {t} {u} xs g h = all-grow IsTerm t u (λ x k. IsId-grows x.ty g k) xs h

pub shown_terms-grow : {t u : Table} (xs : List Term) → Grows t u → All (IsTerm t) xs
    → map (shown_term u) xs ≡ map (shown_term t) xs
shown_terms-grow {t} {u} xs g h = seen-grow IsTerm shown_term t u (λ x k. term-grows x g k) xs h

pub AreOwn-grow : {t u : Table} (xs : List OwnTerm) → Grows t u → All (IsOwn t) xs
    → All (IsOwn u) xs
AreOwn-grow {t} {u} xs g h = all-grow IsOwn t u (λ x k. IsOwn-grows x g k) xs h

pub shown_owns-grow : {t u : Table} (xs : List OwnTerm) → Grows t u → All (IsOwn t) xs
    → map (shown_own u) xs ≡ map (shown_own t) xs
shown_owns-grow {t} {u} xs g h = seen-grow IsOwn shown_own t u (λ x k. own-grows x g k) xs h

pub AreOwns-grow : {t u : Table} (xs : List (List OwnTerm)) → Grows t u → All (AreOwn t) xs
    → All (AreOwn u) xs
AreOwns-grow {t} {u} xs g h = all-grow AreOwn t u (λ x k. AreOwn-grow x g k) xs h

pub shown_unions-grow : {t u : Table} (xs : List (List OwnTerm)) → Grows t u → All (AreOwn t) xs
    → map (shown_owns u) xs ≡ map (shown_owns t) xs
shown_unions-grow {t} {u} xs g h = seen-grow AreOwn shown_owns t u (λ x k. shown_owns-grow x g k) xs
    h

pub ruleset owns_grow = (AreOwns-grow, shown_unions-grow)

-- what calls use
pub ruleset calling = (growth, keeping, stepping, reading)
