-- Readers of statements within a budget of depth, over the readers that have one level less. Go specification, "Blocks",
-- "If statements", "For statements", "Switch statements", "Return statements".
use Rattle.std.specs.Prelude.{ℕ, zero, suc, max, Bool, true, false, ◌&&◌, List, [], ◌∷◌, ◌++◌, length, Option, Some, None, nat_le, if◌then◌else◌}
use Rattle.ui_base.specs.declared.value.Spot.{Spot}
use Rattle.ui_scan.specs.declared.kind.TokenKind.TheVariants.{LBrace, RBrace, Semi, Colon, Const, Var, Return, Break, Continue, If, Else, For, Range, Switch, Case, Default}
use Rattle.ui_tree.specs.Tree.{Tree, MaybeTree, absent, given}
use Rattle.ui_tree.specs.Stmt.{MaybeTrees, no_trees, given_trees, Common, Places, no_places, Stmt, empty as no_words, common, block, alone, returning, breaking, continuing, branch, loop, while_true, counting, ranging, switch, MaybeStmt, no_stmt, given_stmt, Braces, braces, Clauses, clauses_end, clause_and}
use Rattle.ui_tree.specs.StmtView.{stmts}
use Rattle.ui_tree.specs.View.{trees}
use Rattle.ui_parse.specs.Reader.{Reader, ◌>>=◌, pure, refuse, take_by, marked, expect}
use Rattle.ui_syntax.specs.Cover.{Read}
use Rattle.ui_syntax.specs.Types.{Listed, add, empty}
use Rattle.ui_syntax.specs.Read.{expr}
use Rattle.ui_stmts.specs.Common.{Sized, sized, maybe, exprs, constant_decl, variable_decl}
use Rattle.ui_stmts.specs.Simple.{Head, expression, statement, range_over, head, simple, maybe_simple}

-- The readers of one budget: statements with words, those behind `if`, and blocks behind `{`, which count as statements.
pub record NestedStmt : Type 0 where
  pub stmt : Reader (Sized Stmt)
  pub branch : Spot → Reader (Sized Stmt)
  pub block : Spot → Reader (Sized Stmt)

-- a clause as far as it was read
pub record Open : Type 0 where
  pub spot : Spot
  pub values : MaybeTrees
  pub stmts : Listed Stmt

pub record Body : Type 0 where
  pub closed : List Open
  pub open_one : Option Open
  pub depth : ℕ

abbrev pub no_clauses : Body
no_clauses = record { closed = []; open_one = None; depth = 0 }

abbrev pub with_open : List Open → Option Open → List Open
with_open cs None = cs
with_open cs (Some c) = cs ++ (c ∷ [])

abbrev pub clauses_of : List Open → Clauses
clauses_of [] = clauses_end
clauses_of (c ∷ cs) = clause_and c.spot c.values (stmts c.stmts.items) (clauses_of cs)

abbrev pub open_clause : Body → Spot → MaybeTrees → ℕ → Body
open_clause b s vs k = record { closed = with_open b.closed b.open_one; open_one = Some (record { spot = s; values = vs; stmts = empty }); depth = max b.depth k }

abbrev pub into_open : Option Open → Stmt → Option Open
into_open None s = None
into_open (Some c) s = Some (record { spot = c.spot; values = c.values; stmts = add c.stmts s 0 })

abbrev pub add_stmt : Body → Stmt → ℕ → Body
add_stmt b s k = record { closed = b.closed; open_one = into_open b.open_one s; depth = max b.depth k }

abbrev pub is_open : Option Open → Bool
is_open None = false
is_open (Some c) = true

module _ (room : ℕ) (inner : NestedStmt) where
  -- ---- statements in braces, behind the first

  pub record Ended : Type 0 where
    pub all : Listed Stmt
    pub close : Spot

  abbrev pub ended : Listed Stmt → Spot → Ended
  ended l e = record { all = l; close = e }

  -- behind a statement, or none: a semicolon, which may be left out before "}" where there are words
  abbrev pub behind_stmt : (Listed Stmt → Reader Ended) → Listed Stmt → Option (Sized Stmt) → Reader Ended
  behind_stmt again l None = take_by (marked Semi) (λ _. again (add l no_words 1)) refuse
  behind_stmt again l (Some s) = take_by (marked Semi) (λ _. again (add l s.of s.depth)) (expect RBrace >>= (λ e. pure (ended (add l s.of s.depth) e)))

  abbrev pub one_stmt : (Listed Stmt → Reader Ended) → Listed Stmt → Reader Ended
  one_stmt again l = if nat_le 1 room then (maybe inner.stmt >>= behind_stmt again l) else refuse

  -- The number bounds the turns, and each takes a word.
  unfoldable pub body_from : ℕ → Listed Stmt → Reader Ended
  body_from zero l = refuse
  body_from (suc n) l = take_by (marked RBrace) (λ e. pure (ended l e)) (one_stmt (body_from n) l)

  -- { Stmt ";" } "}"
  unfoldable pub body : Spot → Reader (Sized Braces)
  body s = (λ ws. body_from (suc (length ws)) empty ws) >>= (λ b. pure (sized (braces s (stmts b.all.items) b.close) b.all.depth))

  -- "{" { Stmt ";" } "}"
  unfoldable pub a_body : Reader (Sized Braces)
  a_body = expect LBrace >>= body

  -- ---- clauses of a switch

  abbrev pub behind_clause_stmt : (Body → Reader Body) → Body → Option (Sized Stmt) → Reader Body
  behind_clause_stmt again b None = take_by (marked Semi) (λ _. again (add_stmt b no_words 1)) refuse
  behind_clause_stmt again b (Some s) = take_by (marked Semi) (λ _. again (add_stmt b s.of s.depth)) (expect RBrace >>= (λ _. pure (add_stmt b s.of s.depth)))

  abbrev pub clause_stmt : (Body → Reader Body) → Body → Reader Body
  clause_stmt again b = if is_open b.open_one && nat_le 1 room then (maybe inner.stmt >>= behind_clause_stmt again b) else refuse

  abbrev pub default_clause : (Body → Reader Body) → Body → Reader Body
  default_clause again b = take_by (marked Default) (λ s. expect Colon >>= (λ _. again (open_clause b s no_trees 0))) (clause_stmt again b)

  abbrev pub one_clause_part : (Body → Reader Body) → Body → Reader Body
  one_clause_part again b =
      if nat_le 1 room then take_by (marked Case) (λ s. exprs room false >>= (λ es. expect Colon >>= (λ _. again (open_clause b s (given_trees (trees es.items)) es.depth)))) (default_clause again b)
      else default_clause again b

  -- The number bounds the turns, and each takes a word.
  unfoldable pub clauses_from : ℕ → Body → Reader Body
  clauses_from zero b = refuse
  clauses_from (suc n) b = take_by (marked RBrace) (λ _. pure b) (one_clause_part (clauses_from n) b)

  unfoldable pub clauses : Reader (Sized Clauses)
  clauses = (λ ws. clauses_from (suc (length ws)) no_clauses ws) >>= (λ b. pure (sized (clauses_of (with_open b.closed b.open_one)) b.depth))

  -- ---- if

  abbrev pub sized_stmt : Stmt → ℕ → Sized Stmt
  sized_stmt s k = sized s (suc k)

  -- what stands before the condition, with its depth
  pub record Init : Type 0 where
    pub of : MaybeStmt
    pub depth : ℕ

  abbrev pub no_init : Init
  no_init = record { of = no_stmt; depth = 0 }

  abbrev pub empty_init : Init
  empty_init = record { of = given_stmt no_words; depth = 1 }

  abbrev pub init_of : Sized Stmt → Init
  init_of s = record { of = given_stmt s.of; depth = s.depth }

  abbrev pub alone_init : Read Tree → Init
  alone_init x = record { of = given_stmt (alone x.tree); depth = suc x.depth }

  abbrev pub branch_of : Spot → Init → Read Tree → Sized Braces → MaybeStmt → ℕ → Sized Stmt
  branch_of s i c b other k = sized_stmt (branch s i.of c.tree b.of other) (max (max i.depth c.depth) (max b.depth k))

  abbrev pub other_block : (MaybeStmt → ℕ → Sized Stmt) → Reader (Sized Stmt)
  other_block make = expect LBrace >>= (λ s. inner.block s >>= (λ o. pure (make (given_stmt o.of) o.depth)))

  abbrev pub other_branch : (MaybeStmt → ℕ → Sized Stmt) → Reader (Sized Stmt)
  other_branch make =
      if nat_le 2 room then take_by (marked If) (λ s. inner.branch s >>= (λ o. pure (make (given_stmt o.of) o.depth))) (other_block make)
      else other_block make

  -- Block [ "else" ( If | Block ) ]
  abbrev pub branches : Spot → Init → Read Tree → Reader (Sized Stmt)
  branches s i c = a_body >>= (λ b. take_by (marked Else) (λ _. other_branch (branch_of s i c b)) (pure (branch_of s i c b no_stmt 0)))

  abbrev pub condition : Spot → Init → Reader (Sized Stmt)
  condition s i = expr room true >>= branches s i

  abbrev pub branch_behind : Spot → Head → Reader (Sized Stmt)
  branch_behind s (expression x) = if nat_le (suc x.depth) room then take_by (marked Semi) (λ _. condition s (alone_init x)) (branches s no_init x) else branches s no_init x
  branch_behind s (statement st) = expect Semi >>= (λ _. condition s (init_of st))
  branch_behind s (range_over ps) = refuse

  -- behind "if"
  unfoldable pub branch_stmt : Spot → Reader (Sized Stmt)
  branch_stmt s = take_by (marked Semi) (λ _. condition s empty_init) (head room false >>= branch_behind s)

  -- ---- for

  abbrev pub maybe_tree : Option (Read Tree) → MaybeTree
  maybe_tree None = absent
  maybe_tree (Some x) = given x.tree

  abbrev pub tree_depth : Option (Read Tree) → ℕ
  tree_depth None = 0
  tree_depth (Some x) = x.depth

  abbrev pub or_empty : Option (Sized Stmt) → Sized Stmt
  or_empty None = sized no_words 1
  or_empty (Some s) = s

  abbrev pub counting_of : Spot → Sized Stmt → Option (Read Tree) → Sized Stmt → Sized Braces → Sized Stmt
  counting_of s i c p b = sized_stmt (counting s i.of (maybe_tree c) p.of b.of) (max (max i.depth (tree_depth c)) (max p.depth b.depth))

  -- [ Expr ] ";" Simple Block
  unfoldable pub counted : Spot → Sized Stmt → Reader (Sized Stmt)
  counted s i = maybe (expr room true) >>= (λ c. expect Semi >>= (λ _. maybe_simple room >>= (λ p. a_body >>= (λ b. pure (counting_of s i c (or_empty p) b)))))

  -- Expr Block, behind "range"
  unfoldable pub ranged : Spot → Sized Places → Reader (Sized Stmt)
  ranged s ps = expr room true >>= (λ e. a_body >>= (λ b. pure (sized_stmt (ranging s ps.of e.tree b.of) (max (max ps.depth e.depth) b.depth))))

  abbrev pub while_of : Spot → Read Tree → Reader (Sized Stmt)
  while_of s x = a_body >>= (λ b. pure (sized_stmt (while_true s x.tree b.of) (max x.depth b.depth)))

  abbrev pub for_behind : Spot → Head → Reader (Sized Stmt)
  for_behind s (expression x) = if nat_le (suc x.depth) room then take_by (marked Semi) (λ _. counted s (sized (alone x.tree) (suc x.depth))) (while_of s x) else while_of s x
  for_behind s (statement st) = expect Semi >>= (λ _. counted s st)
  for_behind s (range_over ps) = ranged s ps

  abbrev pub for_header : Spot → Reader (Sized Stmt)
  for_header s = take_by (marked Range) (λ _. ranged s (sized no_places 0)) (take_by (marked Semi) (λ _. counted s (sized no_words 1)) (head room true >>= for_behind s))

  -- behind "for"
  unfoldable pub for_stmt : Spot → Reader (Sized Stmt)
  for_stmt s = take_by (marked LBrace) (λ o. body o >>= (λ b. pure (sized_stmt (loop s b.of) b.depth))) (if nat_le 1 room then for_header s else refuse)

  -- ---- switch

  abbrev pub switch_of : Spot → Init → Option (Read Tree) → Reader (Sized Stmt)
  switch_of s i c = expect LBrace >>= (λ _. clauses >>= (λ cs. pure (sized_stmt (switch s i.of (maybe_tree c) cs.of) (max (max i.depth (tree_depth c)) cs.depth))))

  abbrev pub tagged : Spot → Init → Reader (Sized Stmt)
  tagged s i = maybe (expr room true) >>= switch_of s i

  abbrev pub switch_behind : Spot → Head → Reader (Sized Stmt)
  switch_behind s (expression x) = if nat_le (suc x.depth) room then take_by (marked Semi) (λ _. tagged s (alone_init x)) (switch_of s no_init (Some x)) else switch_of s no_init (Some x)
  switch_behind s (statement st) = expect Semi >>= (λ _. tagged s (init_of st))
  switch_behind s (range_over ps) = refuse

  abbrev pub maybe_head : Option Head → Spot → Reader (Sized Stmt)
  maybe_head None s = switch_of s no_init None
  maybe_head (Some h) s = switch_behind s h

  -- behind "switch"
  unfoldable pub switch_stmt : Spot → Reader (Sized Stmt)
  switch_stmt s = if nat_le 1 room then take_by (marked Semi) (λ _. tagged s empty_init) (maybe (head room false) >>= (λ h. maybe_head h s)) else switch_of s no_init None

  -- ---- statements

  abbrev pub return_of : Spot → Option (Listed Tree) → Sized Stmt
  return_of s None = sized_stmt (returning s no_trees) 0
  return_of s (Some es) = sized_stmt (returning s (given_trees (trees es.items))) es.depth

  abbrev pub common_of : Sized Common → Sized Stmt
  common_of c = sized_stmt (common c.of) c.depth

  abbrev pub plain_stmt : Reader (Sized Stmt)
  plain_stmt = take_by (marked Return) (λ s. maybe (exprs room false) >>= (λ es. pure (return_of s es)))
      (take_by (marked Break) (λ s. pure (sized_stmt (breaking s) 0)) (take_by (marked Continue) (λ s. pure (sized_stmt (continuing s) 0))
      (take_by (marked For) (λ s. for_stmt s) (take_by (marked Switch) (λ s. switch_stmt s) (take_by (marked Const) (λ s. constant_decl room s >>= (λ c. pure (common_of c))) (simple room false))))))

  unfoldable pub block_stmt : Spot → Reader (Sized Stmt)
  block_stmt s = body s >>= (λ b. pure (sized_stmt (block b.of) b.depth))

  unfoldable pub stmt : Reader (Sized Stmt)
  stmt = take_by (marked LBrace) (λ s. block_stmt s)
      (take_by (marked Var) (λ s. variable_decl room s >>= (λ c. pure (common_of c))) (if nat_le 1 room then take_by (marked If) (λ s. branch_stmt s) plain_stmt else plain_stmt))

abbrev pub no_stmts : NestedStmt
no_stmts = record { stmt = refuse; branch = λ s. refuse; block = λ s. refuse }

abbrev pub next_stmt : ℕ → NestedStmt → NestedStmt
next_stmt room inner = record { stmt = stmt room inner; branch = branch_stmt room inner; block = block_stmt room inner }

-- the readers of each budget
unfoldable pub stmt_readers : ℕ → NestedStmt
stmt_readers zero = no_stmts
stmt_readers (suc d) = next_stmt d (stmt_readers d)
