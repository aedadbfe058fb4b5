-- Lists that are looked along for the first of something.
use Rattle.std.proofs.Common.{◌≡◌, ℕ, ◌+◌, ◌<◌, ◌≤◌, List, [], ◌∷◌, map, drop, length, get_or}
use Rattle.std.proofs.Common.{Option, Some, None, refl, sym, ap, ◌∙◌, arith}
use Rattle.std.specs.Option.{option_map}
use Rattle.ui_base.proofs.StepLemmas.{turn, no_turn}
use Rattle.ui_base.specs.declared.value.Spot.{Spot}
use Rattle.ui_tree.specs.declared.part.Group.{Group}
use Rattle.ui_tree.specs.declared.expr.TypeExpr.{TypeExpr}
use Rattle.ui_tree.specs.declared.decl.FileTree.{FileTree}
use Rattle.ui_tree.specs.Tree.{Tree, TypeTree, no_type}
use Rattle.ui_tree.specs.View.{kept, groups, group_with, maybe_type, trees, type_view, view}
use Rattle.ui_tree.specs.StmtView.{block_view, decl_view, file_view, groups_view, stmts, stmt_view}
use Rattle.ui_tree.specs.StmtView.{type_spec_view}
use Rattle.ui_tree.specs.declared.stmt.Block.{Block}
use Rattle.ui_tree.specs.declared.stmt.StmtTree.{StmtTree}
use Rattle.ui_tree.specs.declared.decl.TypeSpec.{TypeSpec}
use Rattle.ui_tree.specs.Stmt.{braces}
use Rattle.ui_tree.specs.declared.expr.ExprTree.{ExprTree}
use Rattle.ui_taken.specs.declared.taken.Taken.{Taken}
use Rattle.ui_taken.specs.Firsts.{first_of, first_in}
use Rattle.ui_taken.specs.Taken.{expr_form, exprs_form, type_form, groups_form, body_form}
use Rattle.ui_taken.specs.Taken.{type_spec_form, type_spec_with, decl_form, untaken_at}
use Rattle.ui_taken.specs.Taken.{untaken_from, first_untaken}

-- so many items are looked at, and nothing was found
pub record Looked {X A B : Type 0} (f : A → Option B) (v : X → A) (xs : List X) (i : ℕ) : Type 0
  where
    pub rest : first_in f (map v xs) ≡ first_in f (map v (drop i xs))

module _ {X A B : Type 0} (f : A → Option B) (v : X → A) (xs : List X) where
  pub Looked-start : Looked f v xs 0
  Looked-start = record { rest = refl }

  rest_here : (i : ℕ) (x : X) (o : Option B) → Looked f v xs i → i < length xs → x ≡ get_or xs i x
      → o ≡ f (v x) → first_in f (map v xs) ≡ first_of o (first_in f (map v (drop (i + 1) xs)))
  rest_here i x o l h is e = l.rest ∙ ap (first_in f) (turn v xs i x h is) ∙ ap (λ y. first_of y
      (first_in f (map v (drop (i + 1) xs)))) (sym e)

  pub Looked-more : (i : ℕ) (x : X) (o : Option B) → Looked f v xs i → i < length xs → x ≡ get_or
      xs i x → o ≡ f (v x) → o ≡ None → Looked f v xs (i + 1)
  Looked-more i x o l h is e none = record {
    rest = rest_here i x o l h is e ∙ ap (λ y. first_of y
        (first_in f (map v (drop (i + 1) xs)))) none;
  }

  pub Looked-found : (i : ℕ) (x : X) (o : Option B) (b : B) → Looked f v xs i → i < length xs → x
      ≡ get_or xs i x → o ≡ f (v x) → o ≡ Some b → Some b ≡ first_in f (map v xs)
  Looked-found i x o b l h is e some = sym (rest_here i x o l h is e ∙ ap (λ y. first_of y
      (first_in f (map v (drop (i + 1) xs)))) some)

  pub Looked-end : (i : ℕ) → Looked f v xs i → length xs ≤ i → None ≡ first_in f (map v xs)
  Looked-end i l h = sym (l.rest ∙ ap (first_in f) (no_turn v xs i h))

-- ---- lists of trees

exprs_first : (es : List Tree) → exprs_form (trees es) ≡ first_in expr_form es
exprs_first [] = refl
exprs_first (e ∷ es) = ap (first_of (expr_form e)) (exprs_first es)

pub exprs_found : (list : List ExprTree) → exprs_form (trees (map view list)) ≡ first_in expr_form
    (map view list)
exprs_found list = exprs_first (map view list)

pub groups_found : (list : List (Group TypeExpr)) → groups_form (groups kept (map (group_with
    type_view) list)) ≡ first_in type_form (map (λ (g : Group TypeExpr). type_view g.of) list)
groups_found [] = refl
groups_found (g ∷ gs) = ap (first_of (type_form (type_view g.of))) (groups_found gs)

-- ---- lists that aren't empty

body_some : (s c : Spot) (xs : List StmtTree) → 1 ≤ length xs → Some s ≡ body_form no_type (braces
    s (stmts (map stmt_view xs)) c)
body_some s c [] h = absurd (omega arith)
body_some s c (x ∷ xs) h = refl

pub some_stmts : (r : Option TypeExpr) (b : Block StmtTree) (xs : List StmtTree) → r ≡ None → xs ≡
    b.stmts → 1 ≤ length xs → Some b.spot ≡ body_form (maybe_type (option_map type_view r))
    (block_view b)
some_stmts r b xs e k h =
    body_some b.spot b.close xs h
    ∙ ap (λ ys. body_form no_type (braces b.spot (stmts (map stmt_view ys)) b.close)) k
    ∙ ap (λ q. body_form (maybe_type (option_map type_view q)) (block_view b)) (sym e)

spec_some : (s : Spot) (xs : List (Group TypeExpr)) (t : TypeTree) → 1 ≤ length xs → Some s ≡
    type_spec_with s (groups_view xs) t
spec_some s [] t h = absurd (omega arith)
spec_some s (x ∷ xs) t h = refl

pub some_params : (s : Spot) (t : TypeSpec) (xs : List (Group TypeExpr)) → xs ≡ t.params → 1 ≤
    length xs → Some s ≡ type_spec_form s (type_spec_view t)
some_params s t xs e h = spec_some s xs (type_view t.of) h ∙ ap (λ ys. type_spec_with s
    (groups_view ys) (type_view t.of)) e

-- ---- files

-- so many files are passed
pub record Passed (taken : Taken) (files : List FileTree) (i : ℕ) : Type 0 where
  pub rest : first_untaken taken (map file_view files) ≡ untaken_from taken i (map file_view (drop
      i files))

module _ (taken : Taken) (files : List FileTree) where
  pub Passed-start : Passed taken files 0
  unfolding first_untaken
  Passed-start = record { rest = refl }

  file_here : (i : ℕ) (x : FileTree) (o : Option Spot) → Passed taken files i → i < length files →
      x ≡ get_or files i x → o ≡ first_in (decl_form taken) (map decl_view x.decls)
      → first_untaken taken (map file_view files) ≡ first_of (option_map (untaken_at i) o)
      (untaken_from taken (i + 1) (map file_view (drop (i + 1) files)))
  file_here i x o l h is e = l.rest ∙ ap (untaken_from taken i) (turn file_view files i x h is) ∙
      ap (λ y. first_of (option_map (untaken_at i) y) (untaken_from taken (i + 1) (map file_view
      (drop (i + 1) files)))) (sym e)

  pub Passed-more : (i : ℕ) (x : FileTree) (o : Option Spot) → Passed taken files i → i < length
      files → x ≡ get_or files i x → o ≡ first_in (decl_form taken) (map decl_view x.decls) → o ≡
      None → Passed taken files (i + 1)
  Passed-more i x o l h is e none = record {
    rest = file_here i x o l h is e ∙ ap (λ y. first_of
        (option_map (untaken_at i) y) (untaken_from taken (i + 1) (map file_view (drop (i + 1)
        files)))) none;
  }

  pub Passed-found : (i : ℕ) (x : FileTree) (o : Option Spot) (s : Spot) → Passed taken files i →
      i < length files → x ≡ get_or files i x → o ≡ first_in (decl_form taken) (map decl_view
      x.decls) → o ≡ Some s → Some (untaken_at i s) ≡ first_untaken taken (map file_view files)
  Passed-found i x o s l h is e some = sym (file_here i x o l h is e ∙ ap (λ y. first_of
      (option_map (untaken_at i) y) (untaken_from taken (i + 1) (map file_view (drop (i + 1)
      files)))) some)

  pub Passed-end : (i : ℕ) → Passed taken files i → length files ≤ i → None ≡ first_untaken taken
      (map file_view files)
  Passed-end i l h = sym (l.rest ∙ ap (untaken_from taken i) (no_turn file_view files i h))

pub ruleset looking = (
  Looked-start,
  Looked-more,
  Looked-found,
  Looked-end,
  exprs_found,
  groups_found,
  Passed-start,
  Passed-more,
  Passed-found,
  Passed-end,
)
