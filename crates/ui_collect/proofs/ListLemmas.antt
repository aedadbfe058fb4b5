-- The names of groups.
use Rattle.std.specs.Option.{is_some}
use Rattle.std.proofs.Common.{◌<◌, Bool, true, not, Option, None}
use Rattle.std.proofs.Common.{◌≤◌, length, get_or, false, arith}
use Rattle.std.proofs.Common.{◌≡◌, ℕ, List, [], ◌∷◌, map, Ok, Err, Some, refl, sym, ap, ◌∙◌}
use Rattle.ui_base.specs.declared.value.Spot.{Spot}
use Rattle.ui_tree.specs.declared.part.Placed.{Placed}
use Rattle.ui_tree.specs.declared.part.Group.{Group}
use Rattle.ui_tree.specs.declared.expr.TypeExpr.{TypeExpr}
use Rattle.ui_tree.specs.Tree as tree
use Rattle.ui_tree.specs.Tree.{TypeTree, Groups, MaybeType}
use Rattle.ui_tree.specs.View.{kept, placed, groups, group_with, type_view}
use Rattle.ui_scopes.specs.Steps.{Checks, ◌>>=◌, Refuses, fault_of, refuses_then}
use Rattle.ui_collect.specs.Names.{Names, steps}
use Rattle.ui_collect.specs.Lists.{name_rule, type_rule, groups_rule, result_rule}
use Rattle.ui_collect.specs.Views.{group_step}
use Rattle.ui_collect.specs.Package.{is_plain, package_of, source_of, file_rule, names_of, nothing}
use Rattle.ui_collect.specs.declared.before.Before.{Before}
use Rattle.ui_collect.proofs.StepLemmas.{Passed, Passed-start, Passed-more, Passed-failed}
use Rattle.ui_collect.proofs.StepLemmas.{Passed-end}
use Rattle.ui_base.specs.declared.fault.CheckFault.{CheckFault}
use Rattle.ui_types.specs.Decls.{Packages}
use Rattle.std.proofs.Common.{◌+◌, subst}
use Rattle.ui_tree.specs.StmtView.{groups_view, maybe_type_view}
use Rattle.ui_tree.specs.Stmt as stmt
use Rattle.ui_tree.specs.Stmt.{MaybeGroups}
use Rattle.ui_tree.specs.declared.decl.FileTree.{FileTree}

names_kept : (ns : List Placed) → map (placed kept) ns ≡ ns
names_kept [] = refl
names_kept (n ∷ ns) = ap (λ ms. n ∷ ms) (names_kept ns)

step_kept : {S T : Type 0} (m : Checks S) (k : Checks (Unit {0})) (f : S → Checks T)
    → ((m >>= λ s. k >>= λ _. Ok s) >>= f) ≡ (m >>= λ s. k >>= λ _. f s)
step_kept (Ok s) (Ok u) f = refl
step_kept (Ok s) (Err e) f = refl
step_kept (Err e) k f = refl

pub groups_steps : (file : List ℕ) (names : Names) (gs : List (Group TypeExpr))
    → groups_rule file names (groups kept (map (group_with type_view) gs)) ≡ steps (group_step
    file) names gs
groups_steps file names [] = refl
groups_steps file names (g ∷ gs) =
    ap (λ ns. steps (name_rule file) names ns >>= λ more. type_rule file (type_view g.of) >>= λ _.
    groups_rule file more (groups kept (map (group_with type_view) gs))) (names_kept g.names)
    ∙ (λ i. steps (name_rule file) names g.names >>= λ more. type_rule file (type_view g.of) >>= λ
    _. groups_steps file more gs i)
    ∙ sym (step_kept (steps (name_rule file) names g.names) (type_rule file (type_view g.of)) (λ
    t. steps (group_step file) t gs))

-- results that aren't in parentheses
pub unlisted : (file : List ℕ) (names : Names) (t : TypeTree) → ((s : Spot) (gs : Groups) → t ≡
    tree.listed s gs → ⊥) → type_rule file t ≡ result_rule file names (tree.given_type t)
unlisted file names (tree.named p m given) h = refl
unlisted file names (tree.parenthesized s t) h = refl
unlisted file names (tree.pointer s t) h = refl
unlisted file names (tree.slice s t) h = refl
unlisted file names (tree.array s e t) h = refl
unlisted file names (tree.counted s t) h = refl
unlisted file names (tree.mapping s k t) h = refl
unlisted file names (tree.func s ps r) h = refl
unlisted file names (tree.listed s gs) h = absurd (h s gs refl)
unlisted file names (tree.struct s fs) h = refl
unlisted file names (tree.interface s es) h = refl
unlisted file names (tree.method p gs r) h = refl
unlisted file names (tree.union s ts) h = refl
unlisted file names (tree.tilde s t) h = refl

-- ---- lists that aren't empty

pub some_params : (ts : MaybeGroups) (gs : List (Group TypeExpr)) (r : MaybeType) → 1 ≤ length gs
    → false ≡ is_plain ts (groups_view gs) r
some_params ts [] r h = absurd (omega arith)
some_params stmt.no_groups (g ∷ gs) r h = refl
some_params (stmt.given_groups ts) (g ∷ gs) r h = refl

pub no_params : (b : Bool) (gs : List (Group TypeExpr)) (r : Option TypeExpr) → is_some r ≡ not b
    → length gs < 1 → b ≡ is_plain stmt.no_groups (groups_view gs) (maybe_type_view r)
no_params true [] None e h = refl
no_params false [] None e h = absurd cc
no_params true [] (Some t) e h = absurd cc
no_params false [] (Some t) e h = refl
no_params b (g ∷ gs) r e h = absurd (omega arith)

pub first_package : (files : List FileTree) (f : FileTree) → 1 ≤ length files → f ≡ get_or files 0 f
    → package_of (map source_of files) ≡ f.«package».text
first_package [] f h e = absurd (omega arith)
first_package (g ∷ gs) f h e = ap (λ (x : FileTree). x.«package».text) (sym e)

-- ---- loops over groups

module _ (file : List ℕ) (start now : Names) (gs : List (Group TypeExpr)) where
  pub group_more : (next : Names) (i : ℕ) (g : Group TypeExpr) → Passed (group_step file) start
      now gs i
      → i < length gs → g ≡ get_or gs i g → steps (name_rule file) now g.names ≡ Ok next
      → type_rule file (type_view g.of) ≡ Ok tt → Passed (group_step file) start next gs (i + 1)
  group_more next i g p h is e k =
      Passed-more (group_step file) start now gs next i g p h is
      (ap (λ m. m >>= λ t. type_rule file (type_view g.of) >>= λ _. Ok t) e
      ∙ ap (λ m. m >>= λ _. Ok next) k)

  group_failed : (i : ℕ) (g : Group TypeExpr) (e : CheckFault) → Passed (group_step file) start
      now gs i
      → i < length gs → g ≡ get_or gs i g → Refuses (fault_of (group_step file now g)) e
      → Refuses (fault_of (groups_rule file start (groups kept (map (group_with type_view) gs)))) e
  group_failed i g e p h is f =
      let P : Checks Names → Type 0 = λ m. Refuses (fault_of m) e in
      subst P (sym (groups_steps file start gs)) (Passed-failed (group_step file) start now gs i g
      e p h is f)

  pub group_names_failed : (i : ℕ) (g : Group TypeExpr) (e : CheckFault)
      → Passed (group_step file) start now gs i → i < length gs → g ≡ get_or gs i g
      → Refuses (fault_of (steps (name_rule file) now g.names)) e
      → Refuses (fault_of (groups_rule file start (groups kept (map (group_with type_view) gs)))) e
  group_names_failed i g e p h is f =
      group_failed i g e p h is
      (refuses_then (steps (name_rule file) now g.names) (λ t. type_rule file (type_view g.of)
      >>= λ _. Ok t) e f)

  pub group_type_failed : (next : Names) (i : ℕ) (g : Group TypeExpr) (e : CheckFault)
      → Passed (group_step file) start now gs i → i < length gs → g ≡ get_or gs i g
      → steps (name_rule file) now g.names ≡ Ok next → Refuses (fault_of (type_rule file
      (type_view g.of))) e
      → Refuses (fault_of (groups_rule file start (groups kept (map (group_with type_view) gs)))) e
  group_type_failed next i g e p h is k f =
      let P : Checks Names → Type 0 = λ m. Refuses (fault_of (m >>= λ t. type_rule file (type_view
      g.of) >>= λ _. Ok t)) e in
      group_failed i g e p h is
      (subst P (sym k) (refuses_then (type_rule file (type_view g.of)) (λ _. Ok next) e f))

  pub groups_end : (i : ℕ) → Passed (group_step file) start now gs i → length gs ≤ i
      → groups_rule file start (groups kept (map (group_with type_view) gs)) ≡ Ok now
  groups_end i p h = groups_steps file start gs ∙ Passed-end (group_step file) start now gs i p h

-- ---- all files

module _ (names : Packages) (files : List FileTree) (f : FileTree) (b : Before) where
  started : 1 ≤ length files → f ≡ get_or files 0 f → b ≡ nothing
      → steps (file_rule f.«package».text names) b (map source_of files) ≡ names_of names (map
      source_of files)
  unfolding names_of
  started h e z =
      ap (λ home. steps (file_rule home names) b (map source_of files)) (sym (first_package files
      f h e))
      ∙ ap (λ s. steps (file_rule (package_of (map source_of files)) names) s (map source_of
      files)) z

  pub names_given : (now : Before) → 1 ≤ length files → f ≡ get_or files 0 f → b ≡ nothing
      → steps (file_rule f.«package».text names) b (map source_of files) ≡ Ok now
      → names_of names (map source_of files) ≡ Ok now
  names_given now h e z k = sym (started h e z) ∙ k

  pub names_refused : (fault : CheckFault) → 1 ≤ length files → f ≡ get_or files 0 f → b ≡ nothing
      → Refuses (fault_of (steps (file_rule f.«package».text names) b (map source_of files))) fault
      → Refuses (fault_of (names_of names (map source_of files))) fault
  names_refused fault h e z k =
      let P : Checks Before → Type 0 = λ m. Refuses (fault_of m) fault in subst P (started h e z) k

pub no_files : (names : Packages) (files : List FileTree) → length files < 1
    → names_of names (map source_of files) ≡ Ok nothing
unfolding names_of
no_files names [] h = refl
no_files names (f ∷ fs) h = absurd (omega arith)

pub ruleset listing = (group_more, group_names_failed, group_type_failed, groups_end, Passed-start)

pub ruleset starting = (names_given, names_refused, no_files)
