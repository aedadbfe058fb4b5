-- Constants and variables within enough.
use Rattle.std.proofs.Common.{ℕ, Bool, false, List, Option, Some, None, arith}
use Rattle.std.specs.Prelude.{nat_le}
use Rattle.ui_base.specs.declared.value.Spot.{Spot}
use Rattle.ui_scan.specs.declared.kind.TokenKind.TheVariants.{LParen, RParen, Comma, Semi, Assign}
use Rattle.ui_tree.specs.declared.part.Placed.{Placed}
use Rattle.ui_tree.specs.Tree.{TypeTree, Tree}
use Rattle.ui_parse.specs.Reader.{Reader, marked}
use Rattle.ui_parse.proofs.Steady.{steady_expect}
use Rattle.ui_syntax.specs.declared.site.TypeSite.TheVariants as at
use Rattle.ui_syntax.specs.Cover.{Read}
use Rattle.ui_syntax.specs.Types.{Listed, any_end, empty}
use Rattle.ui_stmts.specs.Common.{Sized, exprs, exprs_from, one_expr_more, specs, one_spec_more, values, constant_behind, constant, variable_behind, variable, constant_decl, variable_decl}
use Rattle.ui_stmts.proofs.SteadyStmts.{steady_names}
use Rattle.ui_depth.proofs.Settled.{Settled, settled_same, settled_pure, settled_bind, settled_room, settled_take, settled_chain, settled_parts}
use Rattle.ui_depth.proofs.Syntax.{Wide, one_room, other_room, expr_settled, maybe_type_settled, type_settled}

pub specs_settled : {S : Type 0} {n : ℕ} {spec spec' : Reader (Sized S)} → Settled n spec spec' → Settled n (specs spec) (specs spec')
unfolding specs
specs_settled {spec = spec} {spec' = spec'} spec_is =
    settled_take (marked LParen) (λ _. settled_bind (settled_parts Semi RParen any_end (one_spec_more spec) (one_spec_more spec') (λ l. settled_bind spec_is (λ s. settled_pure _)) empty) (λ l. settled_pure _)) (settled_bind spec_is (λ s. settled_pure _))

module _ {n b c : ℕ} (wide : Wide n b c) where
  -- ---- lists of expressions

  one_more_settled : (header : Bool) (l : Listed Tree) → Settled n (one_expr_more b header l) (one_expr_more c header l)
  one_more_settled header l = settled_bind (expr_settled wide header) (λ x. settled_pure _)

  pub exprs_from_settled : (header : Bool) (l : Listed Tree) → Settled n (exprs_from b header l) (exprs_from c header l)
  exprs_from_settled header l = settled_chain Comma (one_expr_more b header) (one_expr_more c header) (one_more_settled header) l

  pub exprs_settled : (header : Bool) → Settled n (exprs b header) (exprs c header)
  unfolding exprs
  exprs_settled header = settled_bind (expr_settled wide header) (λ x. exprs_from_settled header _)

  -- ---- constants and variables

  values_settled : (ns : List Placed) (t : Option (Read TypeTree)) → Settled n (values b ns t) (values c ns t)
  values_settled ns t = settled_bind (exprs_settled false) (λ es. settled_pure _)

  constant_behind_settled : (ns : List Placed) (t : Option (Read TypeTree)) → Settled n (constant_behind b ns t) (constant_behind c ns t)
  constant_behind_settled ns None = settled_pure _
  constant_behind_settled ns (Some t) = settled_bind (settled_same (steady_expect Assign)) (λ _. values_settled ns (Some t))

  constant_settled : Settled n (constant b) (constant c)
  unfolding constant
  constant_settled = settled_bind (settled_same steady_names)
      (λ ns. settled_room (nat_le 1 b) (nat_le 1 c) _ _ (one_room 1 wide (omega arith)) (other_room 1 wide (omega arith))
      (settled_take (marked Assign) (λ _. values_settled ns None) (settled_bind (maybe_type_settled wide at.Plain) (constant_behind_settled ns))))

  variable_behind_settled : (ns : List Placed) → Settled n (variable_behind b ns) (variable_behind c ns)
  variable_behind_settled ns = settled_take (marked Assign) (λ _. values_settled ns None)
      (settled_bind (type_settled wide) (λ t. settled_take (marked Assign) (λ _. values_settled ns (Some t)) (settled_pure _)))

  variable_settled : Settled n (variable b) (variable c)
  unfolding variable
  variable_settled = settled_room (nat_le 1 b) (nat_le 1 c) _ _ (one_room 1 wide (omega arith)) (other_room 1 wide (omega arith)) (settled_bind (settled_same steady_names) variable_behind_settled)

  pub constant_decl_settled : (s : Spot) → Settled n (constant_decl b s) (constant_decl c s)
  unfolding constant_decl
  constant_decl_settled s = settled_bind (specs_settled constant_settled) (λ vs. settled_pure _)

  pub variable_decl_settled : (s : Spot) → Settled n (variable_decl b s) (variable_decl c s)
  unfolding variable_decl
  variable_decl_settled s = settled_bind (specs_settled variable_settled) (λ vs. settled_pure _)
