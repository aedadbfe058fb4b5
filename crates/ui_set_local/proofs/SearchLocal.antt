-- Being comparable and satisfying constraints, in two environments that agree.
use Rattle.std.specs.Prelude.{◌≡◌, ℕ, zero, suc, Bool, true, false, List, [], ◌∷◌, map, refl, All}
use Rattle.std.specs.Prelude.{Option, Some, None, Ok, Err, IfOk, if◌then◌else◌}
use Rattle.std.proofs.Common.{ap, sym, ◌∙◌, subst}
use Rattle.std.proofs.lemmas.List.Elements.{All-head, All-tail, All-nil, All-cons, All-map}
use Rattle.ui_types.specs.Ty.{Ty, Tys, basic, named, pointer, slice, array, map_of, func, struct}
use Rattle.ui_types.specs.Ty.{iface, union, param, no_types, types, list_of}
use Rattle.ui_scopes.specs.Scopes.{World}
use Rattle.ui_scopes.specs.Local.{Names, TypeIn, Agree}
use Rattle.ui_sets.specs.Needed.{Needs, needed, bound_of}
use Rattle.ui_sets.specs.Sites.{number_of}
use Rattle.ui_sets.specs.Methods.{listed_fit}
use Rattle.ui_terms.specs.Terms.{TermTree, terms_of, unions_of, unions_fit}
use Rattle.ui_satisfy.specs.Comparable.{is_incomparable, parts_of, asks_comparable, term_types}
use Rattle.ui_satisfy.specs.Search.{Seen, nothing_seen, is_in, Look, unfinished, refused, holds, fails}
use Rattle.ui_satisfy.specs.Search.{and_then, or_else, with_needed, all_looked, one_looked}
use Rattle.ui_satisfy.specs.Search.{bound_looked, plain_looked, inside, opened, closed, looked_anew}
use Rattle.ui_satisfy.specs.Search.{looked, look, answer_of, compared}
use Rattle.ui_satisfy.specs.Satisfies.{Steps, and_next, or_not_comparable, comparable_fits, fits_under}
use Rattle.ui_satisfy.specs.Satisfies.{satisfies}
use Rattle.ui_set_local.specs.Laws.{members, ComparingAgrees, SatisfyingAgrees}
use Rattle.ui_set_local.proofs.Alike.{Alike, list_in, needed_alike, bound_in}
use Rattle.ui_set_local.proofs.SitesLocal.{listed_fit_alike}
use Rattle.ui_set_local.proofs.TermsLocal.{terms_in, unions_in, unions_fit_alike}

parts_in : (S : Names) (t : Ty) → TypeIn S t → All (TypeIn S) (parts_of t)
parts_in S (struct ns ts) h = list_in S ts h
parts_in S (array len t) h = All-cons (TypeIn S) t [] h (All-nil (TypeIn S))
parts_in S (named n ts) h = All-nil (TypeIn S)
parts_in S (basic b) h = All-nil (TypeIn S)
parts_in S (pointer t) h = All-nil (TypeIn S)
parts_in S (slice t) h = All-nil (TypeIn S)
parts_in S (map_of k t) h = All-nil (TypeIn S)
parts_in S (func ps rs) h = All-nil (TypeIn S)
parts_in S (iface ns ts c us) h = All-nil (TypeIn S)
parts_in S (union ms ts) h = All-nil (TypeIn S)
parts_in S (param k) h = All-nil (TypeIn S)

types_in : (S : Names) (u : Ty) → TypeIn S u → All (TypeIn S) (term_types u)
types_in S u h = All-map (TypeIn S) (λ (t : TermTree). t.ty) (terms_of u) (terms_in S u h)

-- two ways to look that are the same on the types of the set
abbrev LookAlike : Names → (Seen → Ty → Look) → (Seen → Ty → Look) → Type 0
LookAlike S look look' = (s : Seen) (t : Ty) → TypeIn S t → look s t ≡ look' s t

module _ {S : Names} {w w' : World} (g : Agree S w w') (look1 look2 : Seen → Ty → Look)
    (same : LookAlike S look1 look2) where
  all_alike : (s : Seen) (ts : List Ty) → All (TypeIn S) ts → all_looked look1 s ts
      ≡ all_looked look2 s ts
  all_alike s [] h = refl
  all_alike s (t ∷ ts) h = λ i.
      and_then (same s t (All-head (TypeIn S) t ts h) i)
      (λ s'. all_alike s' ts (All-tail (TypeIn S) t ts h) i)

  one_alike : (s : Seen) (us : List Ty) → All (TypeIn S) us → one_looked look1 s us
      ≡ one_looked look2 s us
  one_alike s [] h = refl
  one_alike s (u ∷ us) h = λ i.
      or_else (all_alike s (term_types u) (types_in S u (All-head (TypeIn S) u us h)) i)
      (λ s'. one_alike s' us (All-tail (TypeIn S) u us h) i)

  bound_alike : (s : Seen) (b : Ty) → TypeIn S b → bound_looked look1 s b ≡ bound_looked look2 s b
  bound_alike s b h = by (asks_comparable b)
    where
      by : (c : Bool) → (if c then holds s else one_looked look1 s (list_of (unions_of b)))
          ≡ (if c then holds s else one_looked look2 s (list_of (unions_of b)))
      by true = refl
      by false = one_alike s (list_of (unions_of b)) (unions_in S b h)

  plain_alike : (s : Seen) (u : Ty) → TypeIn S u → plain_looked look1 s u ≡ plain_looked look2 s u
  plain_alike s u h = by (is_incomparable u)
    where
      by : (c : Bool) → (if c then fails s else all_looked look1 s (parts_of u))
          ≡ (if c then fails s else all_looked look2 s (parts_of u))
      by true = refl
      by false = all_alike s (parts_of u) (parts_in S u h)

  with_alike : (t : Ty) → TypeIn S t → (f f' : Ty → Look) → ((u : Ty) → TypeIn S u → f u ≡ f' u)
      → with_needed (needed w.decls t) f ≡ with_needed (needed w'.decls t) f'
  with_alike t h f f' k =
      by (needed w.decls t) (needed_alike g t h).within
      ∙ ap (λ (m : Needs Ty). with_needed m f') (needed_alike g t h).equal
    where
      by : (m : Needs Ty) → IfOk m (TypeIn S) → with_needed m f ≡ with_needed m f'
      by (Ok u) i = k u i
      by (Err e) i = refl

  inside_alike : (bounds : List Ty) (s : Seen) (u : Ty) (o : Option ℕ) → All (TypeIn S) bounds
      → TypeIn S u
      → inside w.decls bounds look1 s u o ≡ inside w'.decls bounds look2 s u o
  inside_alike bounds s u None b h = plain_alike s u h
  inside_alike bounds s u (Some k) b h =
      with_alike (bound_of bounds k) (bound_in S bounds k b) (bound_looked look1 s)
      (bound_looked look2 s)
      (λ v i. bound_alike s v i)

  looked_alike : (bounds : List Ty) → All (TypeIn S) bounds
      → LookAlike S (looked w.decls bounds look1) (looked w'.decls bounds look2)
  looked_alike bounds b s t h = by (is_in t s.bad) (is_in t s.good)
    where
      by : (c d : Bool)
          → (if c then fails s else (if d then holds s else with_needed (needed w.decls t)
          (looked_anew w.decls bounds look1 s t)))
          ≡ (if c then fails s else (if d then holds s else with_needed (needed w'.decls t)
          (looked_anew w'.decls bounds look2 s t)))
      by true d = refl
      by false true = refl
      by false false =
          with_alike t h (looked_anew w.decls bounds look1 s t)
          (looked_anew w'.decls bounds look2 s t)
          (λ u i. ap (closed s t) (inside_alike bounds (opened s t) u (number_of t) b i))

look_alike : {S : Names} {w w' : World} → Agree S w w' → (bounds : List Ty) → All (TypeIn S) bounds
    → (n : ℕ)
    → LookAlike S (look w.decls bounds n) (look w'.decls bounds n)
unfolding look
look_alike g bounds b zero s t h = refl
look_alike {w = w} {w' = w'} g bounds b (suc n) s t h =
    looked_alike g (look w.decls bounds n) (look w'.decls bounds n) (look_alike g bounds b n) bounds
    b s t h

pub comparing_agrees : ComparingAgrees
comparing_agrees set w w' bounds t n g b h = ap answer_of (look_alike g bounds b n nothing_seen t h)

pub satisfying_agrees : SatisfyingAgrees
satisfying_agrees set w w' bounds t c n g b h k =
    by (needed w.decls c) (needed_alike g c k).within
    ∙ ap (λ (m : Needs Ty). and_next (Some m) (fits_under w'.decls bounds t n))
    (needed_alike g c k).equal
  where
    asked_alike : (u : Ty) (is : Bool)
        → comparable_fits w.decls bounds t is n ≡ comparable_fits w'.decls bounds t is n
    asked_alike u false = refl
    asked_alike u true =
        ap (λ (m : Steps Bool). and_next m or_not_comparable)
        (comparing_agrees set w w' bounds t n g b h)

    under_alike : (u : Ty) → TypeIn (members set) u → fits_under w.decls bounds t n u
        ≡ fits_under w'.decls bounds t n u
    under_alike u i = λ j.
        and_next (Some ((listed_fit_alike g bounds t u b h).equal j))
        (λ x. and_next (asked_alike u (asks_comparable u) j)
        (λ y. Some ((unions_fit_alike g bounds t (list_of (unions_of u)) b h
        (unions_in (members set) u i)).equal j)))

    by : (m : Needs Ty) → IfOk m (TypeIn (members set)) → and_next (Some m)
        (fits_under w.decls bounds t n) ≡ and_next (Some m) (fits_under w'.decls bounds t n)
    by (Ok u) i = under_alike u i
    by (Err e) i = refl
