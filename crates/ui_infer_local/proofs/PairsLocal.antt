-- What one step of inference gives in two environments that agree.
use Rattle.std.proofs.Common.{◌≡◌, ℕ, Bool, true, false, ◌&&◌, nat_lt, List, [], ◌∷◌, ◌++◌, refl}
use Rattle.std.proofs.Common.{sym, ◌∙◌, ap, subst as along}
use Rattle.std.specs.Prelude.{All, Option, Some, None, Ok, Err, IfOk}
use Rattle.std.specs.Prelude.{if◌then◌else◌}
use Rattle.std.proofs.lemmas.List.Elements.{All-nil, All-cons, All-append}
use Rattle.ui_base.specs.declared.value.Spot.{Spot}
use Rattle.ui_base.specs.declared.fault.FaultKind.{FaultKind}
use Rattle.ui_base.specs.declared.fault.FaultKind.TheVariants as kind
use Rattle.ui_types.specs.Ty.{Ty, Tys, basic, named, pointer, slice, array, map_of, func, struct}
use Rattle.ui_types.specs.Ty.{iface, union, param, types, size, depth}
use Rattle.ui_types.specs.Table.{max_size, max_depth}
use Rattle.ui_types.specs.Decls.{under}
use Rattle.ui_scopes.specs.Scopes.{World}
use Rattle.ui_scopes.specs.Steps.{Checks, made_at, under_at, refuse}
use Rattle.ui_scopes.specs.Local.{Names, TypeIn, TypesIn, Agree, under_at_same}
use Rattle.ui_infer.specs.Shape.{same_shape}
use Rattle.ui_infer.specs.Faults.{Infers, too_big, too_deep, ◌>>=◌, within, need}
use Rattle.ui_infer.specs.Pairs.{BindingTree, pairs, pairs_all, bindings_of}
use Rattle.ui_infer.specs.Top.{is_named, is_literal, topped, top_pairs}
use Rattle.ui_infer.proofs.PairLemmas.{bindings_of-append}

-- the same in both, and In holds of what it gives
pub record Same {A : Type 0} (In : A → Type 0) (m m' : Infers A) : Type 0 where
  pub equal : m ≡ m'
  pub within : IfOk m In

module _ {A B : Type 0} {In : A → Type 0} {Out : B → Type 0} where
  pub same_then : {m m' : Infers A} {f f' : A → Infers B} → Same In m m'
      → ((x : A) → In x → Same Out (f x) (f' x)) → Same Out (m >>= f) (m' >>= f')
  same_then {m} {m'} {f} {f'} h k = along (λ (r : Infers A). Same Out (m >>= f) (r >>= f')) h.equal
      (first m h.within)
    where
      first : (r : Infers A) → IfOk r In → Same Out (r >>= f) (r >>= f')
      first (Ok x) i = k x i
      first (Err e) i = record { equal = refl; within = tt }

module _ {A : Type 0} {In : A → Type 0} where
  pub same_ok : {x : A} → In x → Same In (Ok x) (Ok x)
  same_ok h = record { equal = refl; within = h }

  pub same_if : (b : Bool) {m n m' n' : Infers A} → Same In m m' → Same In n n'
      → Same In (if b then m else n) (if b then m' else n')
  same_if true h k = h
  same_if false h k = k

-- ---- underlying types
from_kind : FaultKind → Infers Ty
from_kind kind.TypeTooBig = Err too_big
from_kind k = Err too_deep

from_check : Checks Ty → Infers Ty
from_check (Ok t) = Ok t
from_check (Err fault) = from_kind fault.kind

no_spot : Spot
no_spot = record { line = 0; col = 0 }

within_check : (t : Ty) → within t ≡ from_check (made_at [] no_spot t)
unfolding within made_at from_check from_kind
within_check t = choice (nat_lt max_size (size t)) (nat_lt max_depth (depth t))
  where
    choice : (b c : Bool) → (if b then Err too_big else (if c then Err too_deep else Ok t))
        ≡ from_check (if b then refuse {A = Ty} [] no_spot kind.TypeTooBig else
        (if c then refuse [] no_spot kind.TypeTooDeep else Ok t))
    choice true c = refl
    choice false true = refl
    choice false false = refl

checked_in : (S : Names) (m : Checks Ty) → IfOk m (TypeIn S) → IfOk (from_check m) (TypeIn S)
unfolding from_check from_kind
checked_in S (Ok t) h = h
checked_in S (Err fault) h = by_kind fault.kind
  where
    by_kind : (k : FaultKind) → IfOk (from_kind k) (TypeIn S)
    by_kind kind.TypeTooBig = tt
    by_kind k = tt

need_check : (w : World) (t : Ty) → need w.decls t ≡ from_check (under_at w [] no_spot t)
unfolding need under_at
need_check w t = within_check (under w.decls t)

module _ {S : Names} {w w' : World} where
  pub need_same : Agree S w w' → (t : Ty) → TypeIn S t
      → Same (TypeIn S) (need w.decls t) (need w'.decls t)
  need_same g t h =
      let k = under_at_same g [] no_spot t h in
      record {
        equal = need_check w t ∙ ap from_check k.equal ∙ sym (need_check w' t);
        within = along (λ (m : Infers Ty). IfOk m (TypeIn S)) (sym (need_check w t))
            (checked_in S (under_at w [] no_spot t) k.within);
      }

  -- ---- a formal type beside an actual type
  pub topped_same : Agree S w w' → (t u : Ty) → TypeIn S t → TypeIn S u
      → Same (λ (p : Ty × Ty). TypeIn S p.0 × TypeIn S p.1) (topped w.decls t u)
      (topped w'.decls t u)
  topped_same g t u h k =
      same_if (is_named t && is_literal u)
      (same_then (need_same g t h) (λ v i. same_ok (i, k)))
      (same_if (is_literal t && is_named u) (same_then (need_same g u k) (λ v i. same_ok (h, i)))
      (same_ok (h, k)))

-- the types of bindings are parts of the actual type
abbrev pub BindingIn : Names → BindingTree → Type 0
BindingIn S b = TypeIn S b.ty

abbrev pub PairsIn : Names → List (Option BindingTree) → Type 0
PairsIn S ps = All (BindingIn S) (bindings_of ps)

pairs_append : (S : Names) (ps qs : List (Option BindingTree)) → PairsIn S ps → PairsIn S qs
    → PairsIn S (ps ++ qs)
pairs_append S ps qs h k = along (All (BindingIn S)) (sym (bindings_of-append ps qs))
    (All-append (BindingIn S) (bindings_of ps) (bindings_of qs) h k)

none_in : (S : Names) → All (BindingIn S) []
none_in S = All-nil (BindingIn S)

unless_unlike : (S : Names) (b : Bool) (ps : List (Option BindingTree)) → PairsIn S ps
    → PairsIn S (if b then ps else None ∷ [])
unless_unlike S true ps h = h
unless_unlike S false ps h = none_in S

mutual
  unfolding pairs pairs_all

  pub pairs_in : (S : Names) (n : ℕ) (t u : Ty) → TypeIn S u → PairsIn S (pairs n t u)
  pairs_in S n (param k) u h = by_number (nat_lt k n)
    where
      by_number : (b : Bool) → PairsIn S (if b then Some (record { param = k; ty = u }) ∷ [] else
          (if same_shape (param k) u then [] else None ∷ []))
      by_number true = All-cons (BindingIn S) (record { param = k; ty = u }) [] h (none_in S)
      by_number false = unless_unlike S (same_shape (param k) u) [] (none_in S)
  pairs_in S n (basic b) u h = unless_unlike S (same_shape (basic b) u) [] (none_in S)
  pairs_in S n (named m ts) (named k us) h = unless_unlike S (same_shape (named m ts) (named k us))
      (pairs_all n ts us) (all_in S n ts us h.1)
  pairs_in S n (pointer t) (pointer u) h = pairs_in S n t u h
  pairs_in S n (slice t) (slice u) h = pairs_in S n t u h
  pairs_in S n (array len t) (array k u) h = unless_unlike S (same_shape (array len t) (array k u))
      (pairs n t u) (pairs_in S n t u h)
  pairs_in S n (map_of k t) (map_of l u) h = pairs_append S (pairs n k l) (pairs n t u)
      (pairs_in S n k l h.0) (pairs_in S n t u h.1)
  pairs_in S n (func ps rs) (func qs ss) h =
      unless_unlike S (same_shape (func ps rs) (func qs ss))
      (pairs_all n ps qs ++ pairs_all n rs ss)
      (pairs_append S (pairs_all n ps qs) (pairs_all n rs ss) (all_in S n ps qs h.0)
      (all_in S n rs ss h.1))
  pairs_in S n (struct ns ts) (struct ms us) h = unless_unlike S
      (same_shape (struct ns ts) (struct ms us)) (pairs_all n ts us) (all_in S n ts us h)
  pairs_in S n (iface ns ts c vs) (iface ms us d ws) h =
      unless_unlike S (same_shape (iface ns ts c vs) (iface ms us d ws))
      (pairs_all n ts us ++ pairs_all n vs ws)
      (pairs_append S (pairs_all n ts us) (pairs_all n vs ws) (all_in S n ts us h.0)
      (all_in S n vs ws h.1))
  pairs_in S n (union ns ts) (union ms us) h = unless_unlike S
      (same_shape (union ns ts) (union ms us)) (pairs_all n ts us) (all_in S n ts us h)
  pairs_in S n t u h = none_in S

  pub all_in : (S : Names) (n : ℕ) (ts us : Tys) → TypesIn S us → PairsIn S (pairs_all n ts us)
  all_in S n (types t ts) (types u us) h = pairs_append S (pairs n t u) (pairs_all n ts us)
      (pairs_in S n t u h.0) (all_in S n ts us h.1)
  all_in S n ts us h = none_in S

pub top_pairs_same : {S : Names} {w w' : World} → Agree S w w' → (n : ℕ) (t u : Ty) → TypeIn S t
    → TypeIn S u → Same (PairsIn S) (top_pairs w.decls n t u) (top_pairs w'.decls n t u)
top_pairs_same {S} g n t u h k = same_then (topped_same g t u h k)
    (λ p i. same_ok (pairs_in S n p.0 p.1 i.1))
