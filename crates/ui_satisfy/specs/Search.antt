-- The order in which a search for what isn't comparable needs underlying types: depth first, and
-- each type once. This project's own.
use Rattle.std.specs.Prelude.{◌≡◌, ℕ, zero, suc, ◌≤◌, Bool, true, false, ◌||◌, List, [], ◌∷◌, ◌++◌}
use Rattle.std.specs.Prelude.{Option, Some, None, Result, Ok, Err, if◌then◌else◌}
use Rattle.ui_types.specs.Ty.{Ty, list_of}
use Rattle.ui_types.specs.Decls.{DeclTrees}
use Rattle.ui_types.specs.Same.{same_type}
use Rattle.ui_sets.specs.declared.fault.SetFault.{SetFault}
use Rattle.ui_sets.specs.declared.fault.SetFault.TheVariants.{Unfit as Unfits, TooBig, TooDeep}
use Rattle.ui_sets.specs.declared.fault.SetFault.TheVariants.{NoMemory}
use Rattle.ui_sets.specs.Needed.{Needs, needed, bound_of}
use Rattle.ui_sets.specs.Sites.{number_of}
use Rattle.ui_terms.specs.Terms.{unions_of}
use Rattle.ui_satisfy.specs.Comparable.{is_incomparable, parts_of, asks_comparable, term_types}

-- What was met so far: the types that are looked at now or that were found comparable, and those
-- that aren't.
pub record Seen : Type 0 where
  pub good : List Ty
  pub bad : List Ty

abbrev pub nothing_seen : Seen
nothing_seen = record { good = []; bad = [] }

abbrev pub is_in : Ty → List Ty → Bool
is_in t [] = false
is_in t (u ∷ us) = same_type t u || is_in t us

abbrev pub put : Ty → List Ty → List Ty
put t ts = if is_in t ts then ts else ts ++ t ∷ []

-- ---- steps What a search finds: that the types are comparable or that they aren't, with what was
-- met by then; or that a needed type is past a limit. It is unfinished where more types stand
-- within one another than it may go through.
pub data Look : Type 0 where
  unfinished : Look
  refused : SetFault → Look
  holds : Seen → Look
  fails : Seen → Look

-- as long as the answer is yes
abbrev pub and_then : Look → (Seen → Look) → Look
and_then unfinished f = unfinished
and_then (refused e) f = refused e
and_then (holds s) f = f s
and_then (fails s) f = fails s

-- as long as the answer is no
abbrev pub or_else : Look → (Seen → Look) → Look
or_else unfinished f = unfinished
or_else (refused e) f = refused e
or_else (holds s) f = holds s
or_else (fails s) f = f s

abbrev pub with_needed : Needs Ty → (Ty → Look) → Look
with_needed (Err e) f = refused e
with_needed (Ok u) f = f u

-- ---- the search
-- one type after another, up to the first that isn't comparable
abbrev pub all_looked : (Seen → Ty → Look) → Seen → List Ty → Look
all_looked look s [] = holds s
all_looked look s (t ∷ ts) = and_then (look s t) (λ s'. all_looked look s' ts)

-- one union after another, up to the first whose terms are all comparable
abbrev pub one_looked : (Seen → Ty → Look) → Seen → List Ty → Look
one_looked look s [] = fails s
one_looked look s (u ∷ us) =
    or_else (all_looked look s (term_types u)) (λ s'. one_looked look s' us)

-- a type parameter with this underlying type of its constraint
abbrev pub bound_looked : (Seen → Ty → Look) → Seen → Ty → Look
bound_looked look s b =
    if asks_comparable b then holds s else one_looked look s (list_of (unions_of b))

-- any other type, with this underlying type
abbrev pub plain_looked : (Seen → Ty → Look) → Seen → Ty → Look
plain_looked look s u = if is_incomparable u then fails s else all_looked look s (parts_of u)

abbrev pub inside : DeclTrees → List Ty → (Seen → Ty → Look) → Seen → Ty → Option ℕ → Look
inside ds bounds look s u None = plain_looked look s u
inside ds bounds look s u (Some k) =
    with_needed (needed ds (bound_of bounds k)) (bound_looked look s)

abbrev pub opened : Seen → Ty → Seen
opened s t = record { good = put t s.good; bad = s.bad }

-- What was found comparable while a type was looked at that isn't, is forgotten: it may have been
-- met as one that was looked at.
abbrev pub closed : Seen → Ty → Look → Look
closed s t unfinished = unfinished
closed s t (refused e) = refused e
closed s t (holds s') = holds s'
closed s t (fails s') = fails (record { good = s.good; bad = put t s'.bad })

abbrev pub looked_anew : DeclTrees → List Ty → (Seen → Ty → Look) → Seen → Ty → Ty → Look
looked_anew ds bounds look s t u =
    closed s t (inside ds bounds look (opened s t) u (number_of t))

-- A type that was met isn't looked at again: where it is looked at now, it counts as comparable.
abbrev pub looked : DeclTrees → List Ty → (Seen → Ty → Look) → Seen → Ty → Look
looked ds bounds look s t =
    if is_in t s.bad then fails s
    else (if is_in t s.good then holds s
    else with_needed (needed ds t) (looked_anew ds bounds look s t))

-- the search through so many types within one another
unfoldable pub look : DeclTrees → List Ty → ℕ → Seen → Ty → Look
look ds bounds zero s t = unfinished
look ds bounds (suc n) s t = looked ds bounds (look ds bounds n) s t

-- ---- where a search ends
-- from some number on it gives this
pub record Ends {A : Type 0} (walk : ℕ → A) (x : A) : Type 0 where
  pub steps : ℕ
  pub from : (n : ℕ) → steps ≤ n → walk n ≡ x

-- where nothing was met yet
abbrev pub answer_of : Look → Option (Needs Bool)
answer_of unfinished = None
answer_of (refused e) = Some (Err e)
answer_of (holds s) = Some (Ok true)
answer_of (fails s) = Some (Ok false)

abbrev pub compared : DeclTrees → List Ty → Ty → ℕ → Option (Needs Bool)
compared ds bounds t n = answer_of (look ds bounds n nothing_seen t)

-- what a call answers: any call may want memory
abbrev pub EndsAs : {A : Type 0} → (ℕ → Option (Needs A)) → Result A SetFault → Type 0
EndsAs walk (Ok x) = Ends walk (Some (Ok x))
EndsAs walk (Err (Unfits u)) = Ends walk (Some (Err (Unfits u)))
EndsAs walk (Err TooBig) = Ends walk (Some (Err TooBig))
EndsAs walk (Err TooDeep) = Ends walk (Some (Err TooDeep))
EndsAs walk (Err NoMemory) = Unit {0}
