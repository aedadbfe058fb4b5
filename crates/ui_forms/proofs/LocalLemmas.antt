-- The verdict asks for no other package than the imports.
use Rattle.std.proofs.Common.{◌≡◌, ℕ, Bool, true, false, cond, ◌||◌, List, [], ◌∷◌, ◌++◌, map, Option, Some, None, Result, Ok, Err, refl, sym, ap, ◌∙◌, subst, zero, suc, arith}
use Rattle.std.specs.Prelude.{bytes_eq, ok_or, Contains}
use Rattle.std.specs.List.{list_any}
use Rattle.std.specs.Option.{option_and_then}
use Rattle.std.specs.Ordering.{nat_cmp, eq_by_cmp}
use Rattle.std.specs.Cmp.Lexicographic.{slice_cmp}
use Rattle.std.specs.FinMap.{contains_key-keys, empty, insert}
use Rattle.std.proofs.lemmas.Map.Text.{is_eq-slice_cmp}
use Rattle.std.proofs.lemmas.Slice.Eq.{bytes_eq-Decides}
use Rattle.ui_base.specs.declared.fault.Fault.{Fault}
use Rattle.ui_base.specs.declared.fault.FaultKind.TheVariants.{ConstTooBig, Undefined}
use Rattle.ui_exports.specs.Export.{Declarations}
use Rattle.ui_forms.specs.Words.{last_segment}
use Rattle.ui_forms.specs.Numbers.{Numbered, has}
use Rattle.ui_base.specs.Steps.{and_then}
use Rattle.ui_forms.specs.Form.{Form, ascending, imported, part_paths, set_with}
use Rattle.ui_forms.specs.Verdict.{Environment, Selection, Agree, IsLocal, added, all_used, constant_value, declared, declared_from, exported, fault_at, first_spot, import_by, name_of, parts_from, spot_of, sum_of, term_value, value_from, value_of, verdict}
use Rattle.ui_forms.specs.declared.part.Term.{Term}
use Rattle.ui_forms.specs.declared.part.Term.TheVariants.{Digits, Own, Of}
use Rattle.ui_forms.specs.declared.part.ImportPath.{ImportPath}
use Rattle.ui_forms.specs.declared.part.ConstantSum.{ConstantSum}
use Rattle.ui_forms.specs.declared.part.Part.{Part}
use Rattle.ui_forms.proofs.NumberLemmas.{has-insert}

-- ---- texts in order contain each text

or_true : (b : Bool) → (b || true) ≡ true
or_true true = refl
or_true false = refl

text_same : (x : List ℕ) → bytes_eq x x ≡ true
text_same x = (bytes_eq-Decides x x).1 refl

-- a text that is there stays
stays : (m : Numbered) (texts : List (List ℕ)) (q : List ℕ) → has m q ≡ true → has (set_with m texts) q ≡ true
stays m [] q h = h
stays m (text ∷ texts) q h = stays (insert m text 0) texts q (ap (λ k. k q) (has-insert m text 0) ∙ ap (λ b. bytes_eq q text || b) h ∙ or_true (bytes_eq q text))

-- and one of the texts is there
among : (m : Numbered) (before : List (List ℕ)) (q : List ℕ) (behind : List (List ℕ)) → has (set_with m (before ++ q ∷ behind)) q ≡ true
among m [] q behind = stays (insert m q 0) behind q (ap (λ k. k q) (has-insert m q 0) ∙ ap (λ b. b || has m q) (text_same q))
among m (text ∷ before) q behind = among (insert m text 0) before q behind

listed : (texts : List (List ℕ)) (q : List ℕ) → list_any (eq_by_cmp (slice_cmp nat_cmp) q) texts ≡ true → Contains texts q
listed [] q e = absurd cc
listed (text ∷ texts) q e =
    elim (eq_by_cmp (slice_cmp nat_cmp) q text) as (λ b. eq_by_cmp (slice_cmp nat_cmp) q text ≡ b → (b || list_any (eq_by_cmp (slice_cmp nat_cmp) q) texts) ≡ true → Contains (text ∷ texts) q) [
      | true ↦ λ is k. (zero, omega arith, sym ((bytes_eq-Decides q text).0 (sym (is_eq-slice_cmp q text) ∙ is)))
      | false ↦ λ is k. let c = listed texts q k in (suc c.0, omega (arith, c.1), c.2)
    ] refl e

contained : (before : List (List ℕ)) (q : List ℕ) (behind : List (List ℕ)) → Contains (ascending (before ++ q ∷ behind)) q
contained before q behind = listed (ascending (before ++ q ∷ behind)) q (sym (contains_key-keys (set_with empty (before ++ q ∷ behind)) q) ∙ among empty before q behind)

-- ---- the imports of a source are among those of the form

-- where a text stands
record Stands (q : List ℕ) (texts : List (List ℕ)) : Type 0 where
  before : List (List ℕ)
  behind : List (List ℕ)
  whole : before ++ q ∷ behind ≡ texts

append_cons : (xs ys : List (List ℕ)) (q : List ℕ) (zs : List (List ℕ)) → (xs ++ q ∷ ys) ++ zs ≡ xs ++ q ∷ (ys ++ zs)
append_cons [] ys q zs = refl
append_cons (x ∷ xs) ys q zs = ap (λ t. x ∷ t) (append_cons xs ys q zs)

append_front : (w xs ys : List (List ℕ)) → (w ++ xs) ++ ys ≡ w ++ (xs ++ ys)
append_front [] xs ys = refl
append_front (x ∷ w) xs ys = ap (λ t. x ∷ t) (append_front w xs ys)

stands_front : (q : List ℕ) (texts more : List (List ℕ)) → Stands q texts → Stands q (texts ++ more)
stands_front q texts more s = record { before = s.before; behind = s.behind ++ more; whole = sym (append_cons s.before s.behind q more) ∙ ap (λ t. t ++ more) s.whole }

stands_behind : (q : List ℕ) (texts more : List (List ℕ)) → Stands q texts → Stands q (more ++ texts)
stands_behind q texts more s = record { before = more ++ s.before; behind = s.behind; whole = append_front more s.before (q ∷ s.behind) ∙ ap (λ t. more ++ t) s.whole }

found_stands : (segment : List ℕ) (is : List ImportPath) (x : ImportPath) → import_by is segment ≡ Some x → Stands x.path (map (λ i. i.path) is)
found_stands segment [] x e = absurd cc
found_stands segment (i ∷ is) x e =
    elim (bytes_eq (last_segment i.path) segment) as (λ b. cond b (Some i) (import_by is segment) ≡ Some x → Stands x.path (i.path ∷ map (λ j. j.path) is)) [
      | true ↦ λ k. record { before = []; behind = map (λ j. j.path) is; whole = ap (λ (p : List ℕ). p ∷ map (λ j. j.path) is) (ap (λ (y : ImportPath). y.path) (sym (some_is i x k))) }
      | false ↦ λ k. stands_behind x.path (map (λ j. j.path) is) (i.path ∷ []) (found_stands segment is x k)
    ] e
  where
    some_is : (a b : ImportPath) → Some a ≡ Some b → a ≡ b
    some_is a b h = cc

-- ---- the same values

module _ (e e' : Environment) (paths : List (List ℕ)) (agree : (path name : List ℕ) → Stands path paths → e path name ≡ e' path name) where
  same_from : (is : List ImportPath) → ((q : List ℕ) → Stands q (map (λ i. i.path) is) → Stands q paths) → (segment name : List ℕ) → value_from e is segment name ≡ value_from e' is segment name
  same_from is within segment name = by (import_by is segment) refl
    where
      by : (o : Option ImportPath) → import_by is segment ≡ o → option_and_then (λ i. e i.path name) o ≡ option_and_then (λ i. e' i.path name) o
      by None is_none = refl
      by (Some x) found = agree x.path name (within x.path (found_stands segment is x found))

stepwise : {A B : Type 0} (f g : A → Result B Fault) (r : Result A Fault) → ((x : A) → f x ≡ g x) → and_then f r ≡ and_then g r
stepwise f g (Ok x) same = same x
stepwise f g (Err fault) same = refl

module _ (s s' : Selection) (same : (segment name : List ℕ) → s segment name ≡ s' segment name) (file : List ℕ) where
  same_value : (before : Declarations) (t : Term) → value_of s before t ≡ value_of s' before t
  same_value before (Digits spot value) = refl
  same_value before (Own spot name) = refl
  same_value before (Of spot segment name) = same segment name

  same_sum : (before : Declarations) (too_big : Fault) (sum : ℕ) (ts : List Term) → sum_of (term_value s file before) too_big sum ts ≡ sum_of (term_value s' file before) too_big sum ts
  same_sum before too_big sum [] = refl
  same_sum before too_big sum (t ∷ ts) =
      ap (λ o. and_then (λ next. sum_of (term_value s file before) too_big next ts) (and_then (added too_big sum) (ok_or o (fault_at file Undefined (spot_of t) (name_of t))))) (same_value before t)
      ∙ stepwise _ _ (and_then (added too_big sum) (term_value s' file before t)) (λ next. same_sum before too_big next ts)

  same_declared : (before : Declarations) (cs : List ConstantSum) → declared_from s file before cs ≡ declared_from s' file before cs
  same_declared before [] = refl
  same_declared before (c ∷ cs) =
      ap (and_then (λ value. declared_from s file (insert before c.name (declared file c value)) cs)) (same_sum before (fault_at file ConstTooBig (first_spot c.terms) []) 0 c.terms)
      ∙ stepwise _ _ (constant_value s' file before c) (λ value. same_declared (insert before c.name (declared file c value)) cs)

module _ (e e' : Environment) (paths : List (List ℕ)) (agree : (path name : List ℕ) → Stands path paths → e path name ≡ e' path name) where
  same_parts : (before : Declarations) (ps : List Part) → ((q : List ℕ) → Stands q (part_paths ps) → Stands q paths) → parts_from e before ps ≡ parts_from e' before ps
  same_parts before [] within = refl
  same_parts before (p ∷ ps) within =
      let here : (q : List ℕ) → Stands q (map (λ i. i.path) p.imports) → Stands q paths = λ q s. within q (stands_front q (map (λ i. i.path) p.imports) (part_paths ps) s) in
      let there : (q : List ℕ) → Stands q (part_paths ps) → Stands q paths = λ q s. within q (stands_behind q (part_paths ps) (map (λ i. i.path) p.imports) s) in
      ap (and_then (λ decls. parts_from e decls ps)) (same_declared (value_from e p.imports) (value_from e' p.imports) (same_from e e' paths agree p.imports here) p.file before p.constants)
      ∙ stepwise _ _ (declared_from (value_from e' p.imports) p.file before p.constants) (λ decls. same_parts decls ps there)

agree_on : (e e' : Environment) (f : Form) → Agree e e' f → (path name : List ℕ) → Stands path (part_paths f.parts) → e path name ≡ e' path name
unfolding imported
agree_on e e' f agree path name s = agree path name (subst (λ ts. Contains (ascending ts) path) s.whole (contained s.before path s.behind))

pub local : IsLocal
unfolding verdict
local e e' f agree = ap (and_then (λ decls. and_then (λ _. Ok (exported f decls)) (all_used f.parts))) (same_parts e e' (part_paths f.parts) (agree_on e e' f agree) empty f.parts (λ q s. s))
