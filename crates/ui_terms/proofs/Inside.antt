-- One union after another, up to the first that a type isn't in.
use Rattle.std.proofs.Common.{◌≡◌, ℕ, ◌+◌, ◌<◌, ◌≤◌, Bool, true, false, List, [], ◌∷◌, length, drop}
use Rattle.std.proofs.Common.{get_or, refl, sym, ap, ◌∙◌, subst}
use Rattle.std.specs.Prelude.{Ok, Err, ◌==◌}
use Rattle.std.proofs.lemmas.List.{drop_all}
use Rattle.ui_types.specs.declared.id.TypeId.{TypeId}
use Rattle.ui_types.specs.Ty.{Ty}
use Rattle.ui_types.specs.Table.{Table, tree, trees}
use Rattle.ui_types.specs.Decls.{DeclTrees}
use Rattle.ui_sets.specs.declared.fault.SetFault.{SetFault}
use Rattle.ui_sets.specs.declared.fault.SetFault.TheVariants.{Unfit as Unfits}
use Rattle.ui_sets.specs.declared.fault.Unfit.TheVariants.{NotInUnion}
use Rattle.ui_sets.specs.Needed.{Needs, ◌>>=◌, Refuses, fault_of, refuses_then}
use Rattle.ui_terms.specs.Terms.{each, asked, TermTree, OwnTree, terms_of, is_one_taken, in_union}
use Rattle.ui_terms.specs.Terms.{own, or_outside, in_unions, unions_fit}
use Rattle.ui_terms.proofs.EachLoop.{rest_at}

module _ (ds : DeclTrees) (os : List (List OwnTree)) (t0 : Table) (ids : List TypeId) where
  abbrev pub inside_whole : Needs (Unit {0})
  inside_whole = in_unions ds os 0 (trees t0 ids)

  -- the unions from this number on give the whole
  pub record IsInside (k : ℕ) : Type 0 where
    pub rest : in_unions ds os k (trees t0 (drop k ids)) ≡ inside_whole

  pub inside_start : IsInside 0
  inside_start = record { rest = refl }

  abbrev after : ℕ → Bool → Needs (Unit {0})
  after k = or_outside k (in_unions ds os (k + 1) (trees t0 (drop (k + 1) ids)))

  here : (k : ℕ) (d : TypeId) → k < length ids → IsInside k
      → (in_union ds os (tree t0 (get_or ids k d)) >>= after k) ≡ inside_whole
  here k d lt h =
      sym (ap (λ (xs : List TypeId). in_unions ds os k (trees t0 xs)) (rest_at ids k d lt)) ∙ h.rest

  pub inside_more : (k : ℕ) (d : TypeId) → k < length ids → IsInside k
      → in_union ds os (tree t0 (get_or ids k d)) ≡ Ok true → IsInside (k + 1)
  inside_more k d lt h e = record {
    rest = sym (ap (λ (m : Needs Bool). m >>= after k) e) ∙ here k d lt h;
  }

  pub inside_out : (k : ℕ) (d : TypeId) → k < length ids → IsInside k
      → in_union ds os (tree t0 (get_or ids k d)) ≡ Ok false
      → inside_whole ≡ Err (Unfits (NotInUnion k))
  inside_out k d lt h e = sym (here k d lt h) ∙ ap (λ (m : Needs Bool). m >>= after k) e

  pub inside_refused : (k : ℕ) (d : TypeId) (e : SetFault) → k < length ids → IsInside k
      → Refuses (fault_of (in_union ds os (tree t0 (get_or ids k d)))) e
      → Refuses (fault_of inside_whole) e
  inside_refused k d e lt h f =
      subst (λ (m : Needs (Unit {0})). Refuses (fault_of m) e) (here k d lt h)
      (refuses_then (in_union ds os (tree t0 (get_or ids k d))) (after k) e f)

  pub inside_end : (k : ℕ) → length ids ≤ k → IsInside k → inside_whole ≡ Ok tt
  inside_end k le h =
      sym h.rest ∙ ap (λ (xs : List TypeId). in_unions ds os k (trees t0 xs)) (drop_all k ids le)

-- the same in other words
pub union_at : {ds ds' : DeclTrees} {os os' : List (List OwnTree)} {u u' : Ty} → ds' ≡ ds → os' ≡ os
    → u' ≡ u → in_union ds' os' u' ≡ in_union ds os u
union_at p q r = λ i. in_union (p i) (q i) (r i)

-- one union, by its terms as they are asked for
pub union_is : (ds : DeclTrees) (os : List (List OwnTree)) (u : Ty) (ts ws : List TermTree)
    (is : Bool)
    → ts ≡ terms_of u → each (asked ds) ts ≡ Ok ws → is ≡ is_one_taken ws os
    → in_union ds os u ≡ Ok is
union_is ds os u ts ws is p q r =
    ap (λ (xs : List TermTree). each (asked ds) xs >>= λ ys. Ok (is_one_taken ys os)) (sym p)
    ∙ ap (λ (m : Needs (List TermTree)). m >>= λ ys. Ok (is_one_taken ys os)) q
    ∙ ap (λ (b : Bool). let m : Needs Bool = Ok b in m) (sym r)

-- where there is a union
pub unions_some : (ds : DeclTrees) (bs : List Ty) (t : Ty) (t0 : Table) (ids : List TypeId)
    (os : List (List OwnTree)) → (length ids == 0) ≡ false → own ds bs t ≡ Ok os
    → unions_fit ds bs t (trees t0 ids) ≡ in_unions ds os 0 (trees t0 ids)
unions_some ds bs t t0 [] os e p = absurd cc
unions_some ds bs t t0 (id ∷ ids) os e p =
    ap (λ (m : Needs (List (List OwnTree))). m >>= λ x. in_unions ds x 0
    (tree t0 id ∷ trees t0 ids)) p

pub unions_at : {ds ds' : DeclTrees} {os os' : List (List OwnTree)} {us us' : List Ty} → ds' ≡ ds
    → os' ≡ os → us' ≡ us → in_unions ds' os' 0 us' ≡ in_unions ds os 0 us
unions_at p q r = λ i. in_unions (p i) (q i) 0 (r i)
