-- Parts of readers that the code reads by calls of their own.
use Rattle.std.specs.Prelude.{ℕ, suc, max, true, false, Option, nat_le, if◌then◌else◌}
use Rattle.ui_base.specs.declared.value.Spot.{Spot}
use Rattle.ui_scan.specs.declared.kind.TokenKind.TheVariants.{Semi, If, Else, Const}
use Rattle.ui_tree.specs.Tree.{Tree}
use Rattle.ui_tree.specs.Stmt.{Stmt, Braces, Clauses, switch, no_stmt, given_stmt}
use Rattle.ui_parse.specs.Reader.{Reader, ◌>>=◌, pure, take_by, marked, expect}
use Rattle.ui_syntax.specs.Cover.{Read}
use Rattle.ui_syntax.specs.Types.{Listed}
use Rattle.ui_syntax.specs.Read.{expr}
use Rattle.ui_stmts.specs.Common.{Sized, maybe, exprs, constant_decl, variable_decl}
use Rattle.ui_stmts.specs.Simple.{Head, expression, head, simple, maybe_simple}
use Rattle.ui_stmts.specs.Stmts as stmts
use Rattle.ui_stmts.specs.Stmts.{NestedStmt, Init, no_init, alone_init, branches, condition, sized_stmt, maybe_tree, tree_depth, return_of, common_of, branch_stmt, plain_stmt as plain}
use Rattle.ui_pstmt.specs.declared.grammar.Begun.{Begun}
use Rattle.ui_pstmt.specs.Nests.{stmt_in}

-- ---- headers

abbrev pub maybe_expr : ℕ → Reader (Option (Read Tree))
maybe_expr room = maybe (expr room true)

abbrev pub maybe_head : ℕ → Reader (Option Head)
maybe_head room = maybe (head room false)

abbrev pub maybe_exprs : ℕ → Reader (Option (Listed Tree))
maybe_exprs room = maybe (exprs room false)

module _ (room : ℕ) (inner : NestedStmt) where
  -- ---- if

  abbrev pub other_of : Begun → Spot → Init room inner → Read Tree → Sized Braces → Reader (Sized Stmt)
  other_of x s i c b = stmt_in inner x >>= (λ o. pure (stmts.branch_of room inner s i c b (given_stmt o.of) o.depth))

  abbrev pub other_block : Spot → Init room inner → Read Tree → Sized Braces → Reader (Sized Stmt)
  other_block s i c b = stmts.other_block room inner (stmts.branch_of room inner s i c b)

  abbrev pub other_branch : Spot → Init room inner → Read Tree → Sized Braces → Reader (Sized Stmt)
  other_branch s i c b = stmts.other_branch room inner (stmts.branch_of room inner s i c b)

  abbrev pub behind_body : Spot → Init room inner → Read Tree → Sized Braces → Reader (Sized Stmt)
  behind_body s i c b = take_by (marked Else) (λ _. other_branch s i c b) (pure (stmts.branch_of room inner s i c b no_stmt 0))

  abbrev pub branch_on : Spot → Read Tree → Reader (Sized Stmt)
  branch_on s x = if nat_le (suc x.depth) room then take_by (marked Semi) (λ _. condition room inner s (alone_init room inner x)) (branches room inner s (no_init room inner) x) else branches room inner s (no_init room inner) x

  -- ---- for

  abbrev pub counted_body : Spot → Sized Stmt → Option (Read Tree) → Option (Sized Stmt) → Reader (Sized Stmt)
  counted_body s i c p = stmts.a_body room inner >>= (λ b. pure (stmts.counting_of room inner s i c (stmts.or_empty room inner p) b))

  abbrev pub counted_on : Spot → Sized Stmt → Option (Read Tree) → Reader (Sized Stmt)
  counted_on s i c = expect Semi >>= (λ _. maybe_simple room >>= (λ p. counted_body s i c p))

  abbrev pub loop_on : Spot → Read Tree → Reader (Sized Stmt)
  loop_on s x = stmts.for_behind room inner s (expression x)

  -- ---- switch

  abbrev pub switch_on : Spot → Read Tree → Reader (Sized Stmt)
  switch_on s x = stmts.switch_behind room inner s (expression x)

  abbrev pub switch_with : Spot → Init room inner → Option (Read Tree) → Sized Clauses → Sized Stmt
  switch_with s i c cs = sized_stmt room inner (switch s i.of (maybe_tree room inner c) cs.of) (max (max i.depth (tree_depth room inner c)) cs.depth)

  -- ---- statements

  abbrev pub return_stmt : Spot → Reader (Sized Stmt)
  return_stmt s = maybe_exprs room >>= (λ es. pure (return_of room inner s es))

  abbrev pub constant_or_simple : Reader (Sized Stmt)
  constant_or_simple = take_by (marked Const) (λ s. constant_decl room s >>= (λ c. pure (common_of room inner c))) (simple room false)

  abbrev pub variables : Spot → Reader (Sized Stmt)
  variables s = variable_decl room s >>= (λ c. pure (common_of room inner c))

  abbrev pub branch_or_plain : Reader (Sized Stmt)
  branch_or_plain = if nat_le 1 room then take_by (marked If) (λ s. branch_stmt room inner s) (plain room inner) else plain room inner
