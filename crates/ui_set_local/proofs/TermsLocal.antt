-- Unions and core types, in two environments that agree.
use Rattle.std.specs.Prelude.{◌≡◌, ℕ, Bool, true, false, List, [], ◌∷◌, refl, All, Option, Some, None}
use Rattle.std.specs.Prelude.{IfSome, Ok, Err, IfOk, if◌then◌else◌, ◌+◌}
use Rattle.std.proofs.Common.{ap, ◌∙◌}
use Rattle.std.proofs.lemmas.List.Elements.{All-head, All-tail, All-nil, All-cons}
use Rattle.ui_types.specs.Ty.{Ty, Tys, basic, named, pointer, slice, array, map_of, func, struct}
use Rattle.ui_types.specs.Ty.{iface, union, param, no_types, types, list_of}
use Rattle.ui_scopes.specs.Scopes.{World}
use Rattle.ui_scopes.specs.Local.{Names, TypeIn, TypesIn, Agree}
use Rattle.ui_sets.specs.Needed.{Needs, ◌>>=◌, needed, bound_of}
use Rattle.ui_sets.specs.Sites.{number_of}
use Rattle.ui_terms.specs.Terms.{each, TermTree, zipped, plain, terms_of, unions_of, OwnTree, own_term}
use Rattle.ui_terms.specs.Terms.{own_union, own_of_bound, own_of_param, numbered_own, own, tilde_or}
use Rattle.ui_terms.specs.Terms.{asked, is_one_taken, in_union, or_outside, in_unions, unions_fit}
use Rattle.ui_terms.specs.Terms.{all_under, one_of, or_else, first_one, numbered_core, core_type}
use Rattle.ui_set_local.specs.Laws.{CoreTypesAgree, CoreTypesStayWithin}
use Rattle.ui_set_local.proofs.Alike.{Alike, alike_then, alike_ok, alike_same, list_in, needed_alike}
use Rattle.ui_set_local.proofs.Alike.{bound_in}
use Rattle.ui_set_local.proofs.SitesLocal.{anything, same_unit}

abbrev pub TermIn : Names → TermTree → Type 0
TermIn S t = TypeIn S t.ty

pub record OwnIn (S : Names) (o : OwnTree) : Type 0 where
  pub ty : TypeIn S o.ty
  pub under : TypeIn S o.under

-- ---- what unions mention
zipped_in : (S : Names) (ms : List Bool) (ts : Tys) → TypesIn S ts → All (TermIn S) (zipped ms ts)
zipped_in S [] ts h = All-nil (TermIn S)
zipped_in S (m ∷ ms) no_types h = All-nil (TermIn S)
zipped_in S (m ∷ ms) (types t ts) h =
    All-cons (TermIn S) (record { tilde = m; ty = t }) (zipped ms ts) h.0 (zipped_in S ms ts h.1)

one_in : (S : Names) (t : Ty) → TypeIn S t → All (TermIn S) (plain t ∷ [])
one_in S t h = All-cons (TermIn S) (plain t) [] h (All-nil (TermIn S))

pub terms_in : (S : Names) (t : Ty) → TypeIn S t → All (TermIn S) (terms_of t)
terms_in S (union ms ts) h = zipped_in S ms ts h
terms_in S (named n ts) h = one_in S (named n ts) h
terms_in S (basic b) h = one_in S (basic b) h
terms_in S (pointer t) h = one_in S (pointer t) h
terms_in S (slice t) h = one_in S (slice t) h
terms_in S (array len t) h = one_in S (array len t) h
terms_in S (map_of k t) h = one_in S (map_of k t) h
terms_in S (func ps rs) h = one_in S (func ps rs) h
terms_in S (struct ns ts) h = one_in S (struct ns ts) h
terms_in S (iface ns ts c us) h = one_in S (iface ns ts c us) h
terms_in S (param k) h = one_in S (param k) h

pub unions_in : (S : Names) (t : Ty) → TypeIn S t → All (TypeIn S) (list_of (unions_of t))
unions_in S (iface ns ts c us) h = list_in S us h.1
unions_in S (named n ts) h = All-nil (TypeIn S)
unions_in S (basic b) h = All-nil (TypeIn S)
unions_in S (pointer t) h = All-nil (TypeIn S)
unions_in S (slice t) h = All-nil (TypeIn S)
unions_in S (array len t) h = All-nil (TypeIn S)
unions_in S (map_of k t) h = All-nil (TypeIn S)
unions_in S (func ps rs) h = All-nil (TypeIn S)
unions_in S (struct ns ts) h = All-nil (TypeIn S)
unions_in S (union ms ts) h = All-nil (TypeIn S)
unions_in S (param k) h = All-nil (TypeIn S)

-- ---- each of a list
each_alike : {A B : Type 0} (In : A → Type 0) (Out : B → Type 0) (f f' : A → Needs B)
    → ((x : A) → In x → Alike Out (f x) (f' x)) → (xs : List A) → All In xs
    → Alike (All Out) (each f xs) (each f' xs)
each_alike In Out f f' k [] h = alike_ok (All-nil Out)
each_alike In Out f f' k (x ∷ xs) h =
    alike_then (k x (All-head In x xs h))
    (λ y i. alike_then (each_alike In Out f f' k xs (All-tail In x xs h))
    (λ ys j. alike_ok (All-cons Out y ys i j)))

module _ {S : Names} {w w' : World} (g : Agree S w w') where
  own_term_alike : (t : TermTree) → TermIn S t
      → Alike (OwnIn S) (own_term w.decls t) (own_term w'.decls t)
  own_term_alike t h =
      alike_then (needed_alike g t.ty h) (λ u i. alike_ok (record { ty = h; under = i }))

  own_union_alike : (u : Ty) → TypeIn S u
      → Alike (All (OwnIn S)) (own_union w.decls u) (own_union w'.decls u)
  own_union_alike u h =
      each_alike (TermIn S) (OwnIn S) (own_term w.decls) (own_term w'.decls) own_term_alike
      (terms_of u)
      (terms_in S u h)

  own_of_bound_alike : (u : Ty) → TypeIn S u
      → Alike (All (All (OwnIn S))) (own_of_bound w.decls u) (own_of_bound w'.decls u)
  own_of_bound_alike u h =
      each_alike (TypeIn S) (All (OwnIn S)) (own_union w.decls) (own_union w'.decls) own_union_alike
      (list_of (unions_of u)) (unions_in S u h)

  own_of_param_alike : (bounds : List Ty) (k : ℕ) → All (TypeIn S) bounds
      → Alike (All (All (OwnIn S))) (own_of_param w.decls bounds k) (own_of_param w'.decls bounds k)
  own_of_param_alike bounds k b =
      alike_then (needed_alike g (bound_of bounds k) (bound_in S bounds k b))
      (λ u i. own_of_bound_alike u i)

  numbered_own_alike : (bounds : List Ty) (t : Ty) (o : Option ℕ) → All (TypeIn S) bounds
      → TypeIn S t
      → Alike (All (All (OwnIn S))) (numbered_own w.decls bounds t o)
      (numbered_own w'.decls bounds t o)
  numbered_own_alike bounds t None b h =
      alike_then (own_term_alike (plain t) h)
      (λ x i. alike_ok (All-cons (All (OwnIn S)) (x ∷ []) []
      (All-cons (OwnIn S) x [] i (All-nil (OwnIn S))) (All-nil (All (OwnIn S)))))
  numbered_own_alike bounds t (Some k) b h = own_of_param_alike bounds k b

  -- ---- being in unions
  asked_alike : (t : TermTree) → TermIn S t → Alike (TermIn S) (asked w.decls t) (asked w'.decls t)
  asked_alike t h = by t.tilde
    where
      by : (b : Bool) → Alike (TermIn S) (tilde_or b (needed w.decls t.ty) t.ty)
          (tilde_or b (needed w'.decls t.ty) t.ty)
      by false = alike_ok h
      by true = alike_then (needed_alike g t.ty h) (λ u i. alike_ok i)

  in_union_alike : (os : List (List OwnTree)) (u : Ty) → TypeIn S u
      → Alike (λ is. Unit {0}) (in_union w.decls os u) (in_union w'.decls os u)
  in_union_alike os u h =
      alike_then (each_alike (TermIn S) (TermIn S) (asked w.decls) (asked w'.decls) asked_alike
      (terms_of u) (terms_in S u h))
      (λ ws i. alike_ok tt)

  in_unions_alike : (os : List (List OwnTree)) (k : ℕ) (us : List Ty) → All (TypeIn S) us
      → Alike anything (in_unions w.decls os k us) (in_unions w'.decls os k us)
  in_unions_alike os k [] h = same_unit refl
  in_unions_alike os k (u ∷ us) h =
      alike_then (in_union_alike os u (All-head (TypeIn S) u us h))
      (λ is i. by is (in_unions_alike os (k + 1) us (All-tail (TypeIn S) u us h)))
    where
      by : (is : Bool) → Alike anything (in_unions w.decls os (k + 1) us)
          (in_unions w'.decls os (k + 1) us)
          → Alike anything (or_outside k (in_unions w.decls os (k + 1) us) is)
          (or_outside k (in_unions w'.decls os (k + 1) us) is)
      by true rest = rest
      by false rest = same_unit refl

  pub unions_fit_alike : (bounds : List Ty) (t : Ty) (us : List Ty) → All (TypeIn S) bounds
      → TypeIn S t
      → All (TypeIn S) us → Alike anything (unions_fit w.decls bounds t us)
      (unions_fit w'.decls bounds t us)
  unions_fit_alike bounds t [] b h k = same_unit refl
  unions_fit_alike bounds t (u ∷ us) b h k =
      alike_then (numbered_own_alike bounds t (number_of t) b h)
      (λ os i. in_unions_alike os 0 (u ∷ us) k)

  -- ---- core types
  one_core : (os : List OwnTree) → All (OwnIn S) os → IfSome (one_of os) (TypeIn S)
  one_core [] h = tt
  one_core (o ∷ os) h = by (all_under o.under (o ∷ os))
    where
      by : (b : Bool) → IfSome (if b then Some o.under else None) (TypeIn S)
      by true = (All-head (OwnIn S) o os h).under
      by false = tt

  first_core : (us : List (List OwnTree)) → All (All (OwnIn S)) us
      → IfSome (first_one us) (TypeIn S)
  first_core [] h = tt
  first_core (u ∷ us) h =
      by (one_of u) (one_core u (All-head (All (OwnIn S)) u us h))
      (first_core us (All-tail (All (OwnIn S)) u us h))
    where
      by : (o : Option Ty) → IfSome o (TypeIn S) → IfSome (first_one us) (TypeIn S)
          → IfSome (or_else o (first_one us)) (TypeIn S)
      by None a rest = rest
      by (Some t) a rest = a

  core_by : (bounds : List Ty) (t : Ty) (o : Option ℕ) → All (TypeIn S) bounds → TypeIn S t
      → Alike (λ core. IfSome core (TypeIn S)) (numbered_core w.decls bounds t o)
      (numbered_core w'.decls bounds t o)
  core_by bounds t None b h = alike_then (needed_alike g t h) (λ u i. alike_ok i)
  core_by bounds t (Some k) b h =
      alike_then (own_of_param_alike bounds k b) (λ us i. alike_ok (first_core us i))

pub core_types_agree : CoreTypesAgree
core_types_agree set w w' bounds t g b h = (core_by g bounds t (number_of t) b h).equal

pub core_types_stay_within : CoreTypesStayWithin
core_types_stay_within set w w' bounds t g b h = (core_by g bounds t (number_of t) b h).within
