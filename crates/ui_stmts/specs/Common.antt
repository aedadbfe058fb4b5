-- Readers of what statements and declarations share: lists of expressions, and constants and variables. Go specification,
-- "Constant declarations" and "Variable declarations".
use Rattle.std.specs.Prelude.{ℕ, max, Bool, true, false, List, [], ◌∷◌, ◌++◌, length, Option, Some, None, Ok, Err, nat_eq, nat_le, if◌then◌else◌}
use Rattle.ui_base.specs.declared.value.Spot.{Spot}
use Rattle.ui_scan.specs.declared.kind.TokenKind.TheVariants.{LParen, RParen, Comma, Semi, Assign}
use Rattle.ui_tree.specs.declared.part.Placed.{Placed}
use Rattle.ui_tree.specs.declared.part.Specs.{Specs}
use Rattle.ui_tree.specs.declared.part.Specs.TheVariants.{One, Grouped}
use Rattle.ui_tree.specs.Tree.{TypeTree, Tree, no_type, given_type}
use Rattle.ui_tree.specs.Stmt.{no_trees, given_trees, ValueGroup, Common, constants, variables}
use Rattle.ui_tree.specs.View.{trees}
use Rattle.ui_grammar.specs.Word.{Word}
use Rattle.ui_parse.specs.Reader.{Outcome, Reader, ◌>>=◌, pure, refuse, take_by, marked, expect, expect_name, chain, parts}
use Rattle.ui_syntax.specs.declared.site.TypeSite.TheVariants as at
use Rattle.ui_syntax.specs.Cover.{Read}
use Rattle.ui_syntax.specs.Types.{Listed, add, only, empty, any_end}
use Rattle.ui_syntax.specs.Read.{readers, expr, type}

-- what was read, with its depth
pub record Sized (T : Type 0) : Type 0 where
  pub of : T
  pub depth : ℕ

abbrev pub sized : {T : Type 0} → T → ℕ → Sized T
sized t k = record { of = t; depth = k }

-- ---- a part that may be left out: a fault at the first word, with nothing taken, is none

abbrev pub none_at : {A : Type 0} → Bool → List Word → List Word → Outcome (Option A)
none_at true ws rest = Ok (None, ws)
none_at false ws rest = Err rest

abbrev pub maybe_of : {A : Type 0} → List Word → Outcome A → Outcome (Option A)
maybe_of ws (Ok p) = Ok (Some p.0, p.1)
maybe_of ws (Err rest) = none_at (nat_eq (length rest) (length ws)) ws rest

unfoldable pub maybe : {A : Type 0} → Reader A → Reader (Option A)
maybe p = λ ws. maybe_of ws (p ws)

-- ---- lists of expressions and of names

abbrev pub one_expr_more : ℕ → Bool → Listed Tree → Reader (Listed Tree)
one_expr_more budget header l = expr budget header >>= (λ x. pure (add l x.tree x.depth))

-- { "," Expr } behind a first expression
abbrev pub exprs_from : ℕ → Bool → Listed Tree → Reader (Listed Tree)
exprs_from budget header l = chain Comma (one_expr_more budget header) l

-- Expr { "," Expr }
unfoldable pub exprs : ℕ → Bool → Reader (Listed Tree)
exprs budget header = expr budget header >>= (λ x. exprs_from budget header (only x.tree x.depth))

abbrev pub one_more : List Placed → Reader (List Placed)
one_more ns = expect_name >>= (λ p. pure (ns ++ (p ∷ [])))

unfoldable pub names : Reader (List Placed)
names = expect_name >>= (λ p. chain Comma one_more (p ∷ []))

-- ---- one specification, or several in parentheses

abbrev pub one_spec : {S : Type 0} → Sized S → Sized (Specs S)
one_spec s = sized (One s.of) s.depth

abbrev pub one_spec_more : {S : Type 0} → Reader (Sized S) → Listed S → Reader (Listed S)
one_spec_more spec l = spec >>= (λ s. pure (add l s.of s.depth))

unfoldable pub specs : {S : Type 0} → Reader (Sized S) → Reader (Sized (Specs S))
specs spec = take_by (marked LParen) (λ _. parts Semi RParen any_end (one_spec_more spec) empty >>= (λ l. pure (sized (Grouped l.items) l.depth))) (spec >>= (λ s. pure (one_spec s)))

-- ---- constants and variables, whose types and values are within the budget

abbrev pub value_of : List Placed → Option (Read TypeTree) → Option (Listed Tree) → Sized ValueGroup
value_of ns None None = sized (record { names = ns; of = no_type; values = no_trees }) 0
value_of ns None (Some es) = sized (record { names = ns; of = no_type; values = given_trees (trees es.items) }) es.depth
value_of ns (Some t) None = sized (record { names = ns; of = given_type t.tree; values = no_trees }) t.depth
value_of ns (Some t) (Some es) = sized (record { names = ns; of = given_type t.tree; values = given_trees (trees es.items) }) (max t.depth es.depth)

abbrev pub values : ℕ → List Placed → Option (Read TypeTree) → Reader (Sized ValueGroup)
values budget ns t = exprs budget false >>= (λ es. pure (value_of ns t (Some es)))

abbrev pub constant_behind : ℕ → List Placed → Option (Read TypeTree) → Reader (Sized ValueGroup)
constant_behind budget ns None = pure (value_of ns None None)
constant_behind budget ns (Some t) = expect Assign >>= (λ _. values budget ns (Some t))

-- Names [ [ Type ] "=" Exprs ]: there has to be room for a value
unfoldable pub constant : ℕ → Reader (Sized ValueGroup)
constant budget = names >>= (λ ns.
    if nat_le 1 budget then take_by (marked Assign) (λ _. values budget ns None) ((readers budget).maybe_type at.Plain >>= constant_behind budget ns) else pure (value_of ns None None))

abbrev pub variable_behind : ℕ → List Placed → Reader (Sized ValueGroup)
variable_behind budget ns = take_by (marked Assign) (λ _. values budget ns None)
    (type budget >>= (λ t. take_by (marked Assign) (λ _. values budget ns (Some t)) (pure (value_of ns (Some t) None))))

-- Names ( Type [ "=" Exprs ] | "=" Exprs ): there has to be room for a type or a value
unfoldable pub variable : ℕ → Reader (Sized ValueGroup)
variable budget = if nat_le 1 budget then (names >>= (λ ns. variable_behind budget ns)) else refuse

-- behind the keyword
unfoldable pub constant_decl : ℕ → Spot → Reader (Sized Common)
constant_decl budget s = specs (constant budget) >>= (λ vs. pure (sized (constants s vs.of) vs.depth))

unfoldable pub variable_decl : ℕ → Spot → Reader (Sized Common)
variable_decl budget s = specs (variable budget) >>= (λ vs. pure (sized (variables s vs.of) vs.depth))
