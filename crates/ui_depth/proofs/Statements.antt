-- Statements within enough.
use Rattle.std.proofs.Common.{◌≡◌, ℕ, zero, suc, ◌+◌, ◌-◌, ◌*◌, ◌<◌, ◌≤◌, Bool, true, false, List, length, Option, Some, None, Ok, Err, arith}
use Rattle.std.specs.Prelude.{nat_eq, nat_le}
use Rattle.std.proofs.lemmas.Bool.{le-leb}
use Rattle.ui_base.specs.declared.value.Spot.{Spot}
use Rattle.ui_scan.specs.declared.kind.TokenKind.TheVariants.{LBrace, Semi, Const, Var, Return, Break, Continue, If, Else, For, Range, Switch}
use Rattle.ui_tree.specs.Tree.{Tree}
use Rattle.ui_tree.specs.Stmt.{Places, Stmt, empty as no_words, MaybeStmt, no_stmt, given_stmt, alone}
use Rattle.ui_grammar.specs.Word.{Word}
use Rattle.ui_parse.specs.Reader.{Outcome, Reader, pure, marked}
use Rattle.ui_parse.proofs.Outcomes.{good, bad}
use Rattle.ui_parse.proofs.Steady.{steady_expect}
use Rattle.ui_syntax.specs.Cover.{Read}
use Rattle.ui_syntax.specs.Types.{Listed}
use Rattle.ui_stmts.specs.Common.{Sized, none_at, maybe_of, maybe}
use Rattle.ui_stmts.specs.Simple.{Head, expression, statement, range_over, head, maybe_simple}
use Rattle.ui_stmts.specs.Stmts.{NestedStmt, branch_of, other_block, other_branch, branches, condition, branch_behind, branch_stmt, counted, ranged, while_of, for_behind, for_header, for_stmt, switch_of, tagged, switch_behind, maybe_head, switch_stmt, return_of, plain_stmt, block_stmt, stmt, stmt_readers}
use Rattle.ui_depth.proofs.Depths.{Each}
use Rattle.ui_depth.proofs.Settled.{Settled, settled_same, settled_pure, settled_refuse, settled_bind, settled_bind_at, settled_room, settled_first, settled_next, settled_expect, settled_take, settled_fewer, settled_maybe}
use Rattle.ui_depth.proofs.Syntax.{Wide, one_room, other_room, expr_settled}
use Rattle.ui_depth.proofs.Values.{exprs_settled, constant_decl_settled, variable_decl_settled}
use Rattle.ui_depth.proofs.Heads.{simple_settled, head_settled, HeadWithin, head_small, maybe_simple_settled}
use Rattle.ui_depth.proofs.Bodies.{AreSettled, body_settled, a_body_settled, clauses_settled}

-- Two budgets are enough for statements of fewer than n words behind a first one.
pub record Ample (n d e : ℕ) : Type 0 where
  pub one : 4 * n + 9 ≤ d
  pub other : 4 * n + 9 ≤ e

ample_wide : {n d e : ℕ} → Ample n d e → Wide n d e
ample_wide a = record { one = omega (arith, a.one); other = omega (arith, a.other) }

-- the front of a header
head_at : (n d e : ℕ) → Ample n d e → (range : Bool) → Settled n (head d range) (head e range)
head_at n zero e a range = absurd (omega (arith, a.one))
head_at n (suc b) zero a range = absurd (omega (arith, a.other))
head_at n (suc b) (suc c) a range = head_settled (record { one = omega (arith, a.one); other = omega (arith, a.other) }) range

head_small_at : (n d e : ℕ) → Ample n d e → (range : Bool) (ws : List Word) → length ws < n → Each (HeadWithin (4 * n + 5)) (head d range ws)
head_small_at n zero e a range ws lt = absurd (omega (arith, a.one))
head_small_at n (suc b) zero a range ws lt = absurd (omega (arith, a.other))
head_small_at n (suc b) (suc c) a range ws lt =
    let wide : Wide n b c = record { one = omega (arith, a.one); other = omega (arith, a.other) } in head_small wide range ws lt

simple_at : (n d e : ℕ) → Ample n d e → Settled n (maybe_simple d) (maybe_simple e)
simple_at n zero e a = absurd (omega (arith, a.one))
simple_at n (suc b) zero a = absurd (omega (arith, a.other))
simple_at n (suc b) (suc c) a = maybe_simple_settled (record { one = omega (arith, a.one); other = omega (arith, a.other) })

-- an expression that begins a header of so few words leaves room for a statement around it
one_more : {n d e : ℕ} (k : ℕ) → Ample n d e → k ≤ 4 * n + 5 → nat_le (suc k) d ≡ true
one_more k a le = le-leb _ _ (omega (arith, a.one, le))

other_more : {n d e : ℕ} (k : ℕ) → Ample n d e → k ≤ 4 * n + 5 → nat_le (suc k) e ≡ true
other_more k a le = le-leb _ _ (omega (arith, a.other, le))

module _ {n d e : ℕ} (ample : Ample n d e) (is : AreSettled n d e) where
  abbrev One : NestedStmt
  One = stmt_readers d

  abbrev Other : NestedStmt
  Other = stmt_readers e

  wide : Wide n d e
  wide = ample_wide ample

  -- ---- if

  other_block_settled : (make : MaybeStmt → ℕ → Sized Stmt) → Settled n (other_block d One make) (other_block e Other make)
  other_block_settled make = settled_expect LBrace (λ s. settled_bind (is.block s) (λ o. settled_pure _))

  other_branch_settled : (make : MaybeStmt → ℕ → Sized Stmt) → Settled n (other_branch d One make) (other_branch e Other make)
  other_branch_settled make = settled_room (nat_le 2 d) (nat_le 2 e) _ _ (one_room 2 wide (omega arith)) (other_room 2 wide (omega arith))
      (settled_next (marked If) (λ s. settled_bind (is.branch s) (λ o. settled_pure _)) (other_block_settled make))

  branches_settled : (s : Spot) (i : MaybeStmt) (k : ℕ) (c : Read Tree) → Settled n (branches d One s (record { of = i; depth = k }) c) (branches e Other s (record { of = i; depth = k }) c)
  branches_settled s i k c = settled_bind (a_body_settled wide is) (λ b. settled_take (marked Else) (λ _. other_branch_settled (branch_of d One s (record { of = i; depth = k }) c b)) (settled_pure (branch_of d One s (record { of = i; depth = k }) c b no_stmt 0)))

  condition_settled : (s : Spot) (i : MaybeStmt) (k : ℕ) → Settled n (condition d One s (record { of = i; depth = k })) (condition e Other s (record { of = i; depth = k }))
  condition_settled s i k = settled_bind (expr_settled wide true) (λ c. branches_settled s i k c)

  branch_behind_settled : (s : Spot) (h : Head) → HeadWithin (4 * n + 5) h → Settled n (branch_behind d One s h) (branch_behind e Other s h)
  branch_behind_settled s (expression x) le = settled_room (nat_le (suc x.depth) d) (nat_le (suc x.depth) e) _ _ (one_more x.depth ample le) (other_more x.depth ample le)
      (settled_take (marked Semi) (λ _. condition_settled s (given_stmt (alone x.tree)) (suc x.depth)) (branches_settled s no_stmt 0 x))
  branch_behind_settled s (statement st) le = settled_bind (settled_same (steady_expect Semi)) (λ _. condition_settled s (given_stmt st.of) st.depth)
  branch_behind_settled s (range_over ps) le = settled_refuse

  branch_stmt_settled : (s : Spot) → Settled n (branch_stmt d One s) (branch_stmt e Other s)
  unfolding branch_stmt
  branch_stmt_settled s = settled_take (marked Semi) (λ _. condition_settled s (given_stmt no_words) 1)
      (settled_bind_at (HeadWithin (4 * n + 5)) (head_at n d e ample false) (head_small_at n d e ample false) (λ h le. branch_behind_settled s h le))

  -- ---- for

  counted_settled : (s : Spot) (i : Sized Stmt) → Settled n (counted d One s i) (counted e Other s i)
  unfolding counted
  counted_settled s i = settled_bind (settled_maybe (expr_settled wide true))
      (λ c. settled_bind (settled_same (steady_expect Semi)) (λ _. settled_bind (simple_at n d e ample) (λ p. settled_bind (a_body_settled wide is) (λ b. settled_pure _))))

  ranged_settled : (s : Spot) (ps : Sized Places) → Settled n (ranged d One s ps) (ranged e Other s ps)
  unfolding ranged
  ranged_settled s ps = settled_bind (expr_settled wide true) (λ x. settled_bind (a_body_settled wide is) (λ b. settled_pure _))

  while_settled : (s : Spot) (x : Read Tree) → Settled n (while_of d One s x) (while_of e Other s x)
  while_settled s x = settled_bind (a_body_settled wide is) (λ b. settled_pure _)

  for_behind_settled : (s : Spot) (h : Head) → HeadWithin (4 * n + 5) h → Settled n (for_behind d One s h) (for_behind e Other s h)
  for_behind_settled s (expression x) le = settled_room (nat_le (suc x.depth) d) (nat_le (suc x.depth) e) _ _ (one_more x.depth ample le) (other_more x.depth ample le)
      (settled_take (marked Semi) (λ _. counted_settled s _) (while_settled s x))
  for_behind_settled s (statement st) le = settled_bind (settled_same (steady_expect Semi)) (λ _. counted_settled s st)
  for_behind_settled s (range_over ps) le = ranged_settled s ps

  for_header_settled : (s : Spot) → Settled n (for_header d One s) (for_header e Other s)
  for_header_settled s = settled_take (marked Range) (λ _. ranged_settled s _) (settled_take (marked Semi) (λ _. counted_settled s _)
      (settled_bind_at (HeadWithin (4 * n + 5)) (head_at n d e ample true) (head_small_at n d e ample true) (λ h le. for_behind_settled s h le)))

  for_stmt_settled : (s : Spot) → Settled n (for_stmt d One s) (for_stmt e Other s)
  unfolding for_stmt
  for_stmt_settled s = settled_take (marked LBrace) (λ o. settled_bind (body_settled wide is o) (λ b. settled_pure _))
      (settled_room (nat_le 1 d) (nat_le 1 e) _ _ (one_room 1 wide (omega arith)) (other_room 1 wide (omega arith)) (for_header_settled s))

  -- ---- switch

  switch_of_settled : (s : Spot) (i : MaybeStmt) (k : ℕ) (c : Option (Read Tree)) → Settled n (switch_of d One s (record { of = i; depth = k }) c) (switch_of e Other s (record { of = i; depth = k }) c)
  switch_of_settled s i k None = settled_bind (settled_same (steady_expect LBrace)) (λ _. settled_bind (clauses_settled wide is) (λ cs. settled_pure _))
  switch_of_settled s i k (Some c) = settled_bind (settled_same (steady_expect LBrace)) (λ _. settled_bind (clauses_settled wide is) (λ cs. settled_pure _))

  tagged_settled : (s : Spot) (i : MaybeStmt) (k : ℕ) → Settled n (tagged d One s (record { of = i; depth = k })) (tagged e Other s (record { of = i; depth = k }))
  tagged_settled s i k = settled_bind (settled_maybe (expr_settled wide true)) (λ c. switch_of_settled s i k c)

  switch_behind_settled : (s : Spot) (h : Head) → HeadWithin (4 * n + 5) h → Settled n (switch_behind d One s h) (switch_behind e Other s h)
  switch_behind_settled s (expression x) le = settled_room (nat_le (suc x.depth) d) (nat_le (suc x.depth) e) _ _ (one_more x.depth ample le) (other_more x.depth ample le)
      (settled_take (marked Semi) (λ _. tagged_settled s (given_stmt (alone x.tree)) (suc x.depth)) (switch_of_settled s no_stmt 0 (Some x)))
  switch_behind_settled s (statement st) le = settled_bind (settled_same (steady_expect Semi)) (λ _. tagged_settled s (given_stmt st.of) st.depth)
  switch_behind_settled s (range_over ps) le = settled_refuse

  abbrev MaybeWithin : Option Head → Type 0
  MaybeWithin None = Unit {0}
  MaybeWithin (Some h) = HeadWithin (4 * n + 5) h

  maybe_head_settled : (h : Option Head) (s : Spot) → MaybeWithin h → Settled n (maybe_head d One h s) (maybe_head e Other h s)
  maybe_head_settled None s le = switch_of_settled s no_stmt 0 None
  maybe_head_settled (Some h) s le = switch_behind_settled s h le

  none_small : (b : Bool) (ws rest : List Word) → Each MaybeWithin (none_at b ws rest)
  none_small true ws rest = good tt
  none_small false ws rest = bad tt

  maybe_small : (ws : List Word) (o : Outcome Head) → Each (HeadWithin (4 * n + 5)) o → Each MaybeWithin (maybe_of ws o)
  maybe_small ws (Ok p) h = good h.holds
  maybe_small ws (Err r) h = none_small (nat_eq (length r) (length ws)) ws r

  head_maybe_small : (ws : List Word) → length ws < n → Each MaybeWithin (maybe (head d false) ws)
  unfolding maybe
  head_maybe_small ws lt = maybe_small ws (head d false ws) (head_small_at n d e ample false ws lt)

  switch_stmt_settled : (s : Spot) → Settled n (switch_stmt d One s) (switch_stmt e Other s)
  unfolding switch_stmt
  switch_stmt_settled s = settled_room (nat_le 1 d) (nat_le 1 e) _ _ (one_room 1 wide (omega arith)) (other_room 1 wide (omega arith))
      (settled_take (marked Semi) (λ _. tagged_settled s (given_stmt no_words) 1)
      (settled_bind_at MaybeWithin (settled_maybe (head_at n d e ample false)) head_maybe_small (λ h le. maybe_head_settled h s le)))

  -- ---- statements: of one word more

  more : Wide (suc n) d e
  more = record { one = omega (arith, ample.one); other = omega (arith, ample.other) }

  return_settled : (s : Spot) (es : Option (Listed Tree)) → Settled n (pure (return_of d One s es)) (pure (return_of e Other s es))
  return_settled s None = settled_pure _
  return_settled s (Some es) = settled_pure _

  plain_stmt_settled : Settled (suc n) (plain_stmt d One) (plain_stmt e Other)
  plain_stmt_settled = settled_first (marked Return) (λ s. settled_bind (settled_maybe (exprs_settled wide false)) (λ es. return_settled s es))
      (settled_first (marked Break) (λ s. settled_pure _) (settled_first (marked Continue) (λ s. settled_pure _)
      (settled_first (marked For) (λ s. for_stmt_settled s) (settled_first (marked Switch) (λ s. switch_stmt_settled s) (settled_first (marked Const) (λ s. settled_bind (constant_decl_settled wide s) (λ c. settled_pure _)) (simple_settled more false))))))

  block_stmt_settled : (s : Spot) → Settled n (block_stmt d One s) (block_stmt e Other s)
  unfolding block_stmt
  block_stmt_settled s = settled_bind (body_settled wide is s) (λ b. settled_pure _)

  stmt_settled : Settled (suc n) (stmt d One) (stmt e Other)
  unfolding stmt
  stmt_settled = settled_first (marked LBrace) (λ s. block_stmt_settled s)
      (settled_first (marked Var) (λ s. settled_bind (variable_decl_settled wide s) (λ c. settled_pure _))
      (settled_room (nat_le 1 d) (nat_le 1 e) _ _ (one_room 1 wide (omega arith)) (other_room 1 wide (omega arith)) (settled_first (marked If) (λ s. branch_stmt_settled s) plain_stmt_settled)))

  next_settled : AreSettled (suc n) (suc d) (suc e)
  unfolding stmt_readers
  next_settled = record {
    stmt = stmt_settled;
    branch = λ s. settled_fewer (suc n - 1) (omega arith) (branch_stmt_settled s);
    block = λ s. settled_fewer (suc n - 1) (omega arith) (block_stmt_settled s);
  }

none_settled : {A : Type 0} (p q : Reader A) → Settled 0 p q
none_settled p q = record { at = λ ws lt. absurd (omega (arith, lt)); ends = λ ws lt. absurd (omega (arith, lt)) }

-- The readers of statements of each two budgets that are enough read the same.
pub stmts_settled : (n d e : ℕ) → 4 * n + 8 ≤ d → 4 * n + 8 ≤ e → AreSettled n d e
stmts_settled zero d e le le2 = record {
  stmt = none_settled _ _;
  branch = λ s. settled_fewer (0 - 1) (omega arith) (none_settled _ _);
  block = λ s. settled_fewer (0 - 1) (omega arith) (none_settled _ _);
}
stmts_settled (suc n) zero e le le2 = absurd (omega (arith, le))
stmts_settled (suc n) (suc d) zero le le2 = absurd (omega (arith, le2))
stmts_settled (suc n) (suc d) (suc e) le le2 = next_settled (record { one = omega (arith, le); other = omega (arith, le2) }) (stmts_settled n d e (omega (arith, le)) (omega (arith, le2)))
