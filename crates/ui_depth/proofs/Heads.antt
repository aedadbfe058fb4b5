-- Simple statements and the fronts of headers within enough.
use Rattle.std.proofs.Common.{ℕ, suc, ◌+◌, ◌*◌, ◌<◌, ◌≤◌, Bool, true, false, List, [], ◌∷◌, length, Option, Some, None, arith}
use Rattle.std.specs.Prelude.{nat_le}
use Rattle.std.proofs.lemmas.Bool.{le-leb}
use Rattle.ui_base.specs.declared.value.Spot.{Spot}
use Rattle.ui_base.specs.declared.kind.BinOp.{BinOp}
use Rattle.ui_scan.specs.declared.kind.TokenKind.TheVariants.{Comma, Assign, Define, Inc, Dec, Range}
use Rattle.ui_tree.specs.declared.part.Placed.{Placed}
use Rattle.ui_tree.specs.Tree.{Tree}
use Rattle.ui_tree.specs.Stmt.{Places, increment, decrement}
use Rattle.ui_grammar.specs.Word.{Word}
use Rattle.ui_grammar.specs.Fits.{in_header}
use Rattle.ui_parse.specs.Reader.{Reader, marked}
use Rattle.ui_parse.proofs.Outcomes.{mono, holds_at}
use Rattle.ui_parse.proofs.Steady.{steady_expect}
use Rattle.ui_syntax.specs.Cover.{Read}
use Rattle.ui_syntax.specs.Types.{Listed, only}
use Rattle.ui_stmts.specs.Simple.{Head, expression, statement, range_over, stated, assigned, defined, or_range, or_defined, defined_by, assignment, op_assigned, define_or, behind_first, head_behind, simple_of, simple, head, maybe_simple, an_assignment, names_in}
use Rattle.ui_stmts.proofs.SoundHeads.{HeadRead}
use Rattle.ui_stmts.proofs.SoundSimple.{head_holds}
use Rattle.ui_depth.proofs.Depths.{Each}
use Rattle.ui_depth.proofs.Settled.{Settled, settled_same, settled_pure, settled_refuse, settled_bind, settled_bind_at, settled_if, settled_room, settled_take, settled_maybe}
use Rattle.ui_depth.proofs.Syntax.{Wide, expr_settled, expr_small}
use Rattle.ui_depth.proofs.Values.{exprs_from_settled, exprs_settled}

module _ {n b c : ℕ} (wide : Wide n b c) (header range : Bool) where
  assigned_settled : (s : Spot) (l : Listed Tree) → Settled n (assigned b header range s l) (assigned c header range s l)
  assigned_settled s l = settled_bind (exprs_settled wide header) (λ r. settled_pure _)

  defined_settled : (s : Spot) (ns : List Placed) → Settled n (defined b header range s ns) (defined c header range s ns)
  defined_settled s ns = settled_bind (exprs_settled wide header) (λ r. settled_pure _)

  or_range_settled : (ps : Places) (k : ℕ) {other other' : Reader Head} → Settled n other other' → Settled n (or_range b header range ps k other) (or_range c header range ps k other')
  or_range_settled ps k other_is = settled_if range (settled_take (marked Range) (λ _. settled_pure _) other_is) other_is

  or_defined_settled : (l : Listed Tree) {other other' : Reader Head} → Settled n other other' → Settled n (or_defined b header range l other) (or_defined c header range l other')
  or_defined_settled l other_is = settled_if range (settled_take (marked Define) (λ _. settled_bind (settled_same (steady_expect Range)) (λ _. settled_pure _)) other_is) other_is

  defined_by_settled : (s : Spot) (l : Listed Tree) (ns : Option (List Placed)) → Settled n (defined_by b header range s l ns) (defined_by c header range s l ns)
  defined_by_settled s l None = or_defined_settled l settled_refuse
  defined_by_settled s l (Some ns) = settled_take (marked Define) (λ _. or_range_settled _ _ (defined_settled s ns)) settled_refuse

  assignment_settled : (s : Spot) (l : Listed Tree) → Settled n (assignment b header range s l) (assignment c header range s l)
  assignment_settled s l = settled_take (marked Assign) (λ _. or_range_settled _ _ (assigned_settled s l)) (defined_by_settled s l (names_in l.items))

  op_assigned_settled : (x : Read Tree) (o : BinOp) → Settled n (op_assigned b header range x o) (op_assigned c header range x o)
  op_assigned_settled x o = settled_bind (expr_settled wide header) (λ r. settled_pure _)

  define_or_settled : (x : Read Tree) (ns : Option (List Placed)) → Settled n (define_or b header range x ns) (define_or c header range x ns)
  define_or_settled x None = or_defined_settled (only x.tree x.depth) (settled_pure (expression x))
  define_or_settled x (Some ns) = settled_take (marked Define) (λ _. or_range_settled _ _ (defined_settled x.spot ns)) (settled_pure _)

  behind_first_settled : (x : Read Tree) → Settled n (behind_first b header range x) (behind_first c header range x)
  behind_first_settled x =
      settled_take (marked Comma) (λ _. settled_bind (expr_settled wide header) (λ y. settled_bind (exprs_from_settled wide header _) (λ l. assignment_settled x.spot l)))
      (settled_take (marked Assign) (λ _. or_range_settled _ _ (assigned_settled x.spot (only x.tree x.depth)))
      (settled_take an_assignment (λ o. op_assigned_settled x o) (settled_take (marked Inc) (λ _. settled_pure (stated (increment x.spot x.tree) x.depth)) (settled_take (marked Dec) (λ _. settled_pure (stated (decrement x.spot x.tree) x.depth)) (define_or_settled x (names_in (x.tree ∷ [])))))))

  pub head_behind_settled : (x : Read Tree) → x.depth ≤ 4 * n + 4 → Settled n (head_behind b header range x) (head_behind c header range x)
  unfolding head_behind
  head_behind_settled x le = settled_room (nat_le x.depth b) (nat_le x.depth c) _ _ (le-leb _ _ (omega (arith, le, wide.one))) (le-leb _ _ (omega (arith, le, wide.other))) (behind_first_settled x)

simple_of_settled : {n : ℕ} (h : Head) → Settled n (simple_of h) (simple_of h)
simple_of_settled (expression x) = settled_pure _
simple_of_settled (statement s) = settled_pure _
simple_of_settled (range_over ps) = settled_refuse

pub simple_settled : {n b c : ℕ} → Wide n b c → (header : Bool) → Settled n (simple b header) (simple c header)
unfolding simple
simple_settled {n = n} wide header = settled_bind_at (λ x. x.depth ≤ 4 * n) (expr_settled wide header) (expr_small wide header)
    (λ x le. settled_bind (head_behind_settled wide header false x (omega (arith, le))) simple_of_settled)

-- Within a header's budget, statements have one level less.
narrow : {n b c : ℕ} → Wide n b c → Wide n (suc b) (suc c)
narrow w = record { one = omega (arith, w.one); other = omega (arith, w.other) }

pub head_settled : {n b c : ℕ} → Wide n b c → (range : Bool) → Settled n (head (suc b) range) (head (suc c) range)
unfolding head
head_settled {n = n} wide range = settled_bind_at (λ x. x.depth ≤ 4 * n) (expr_settled (narrow wide) true) (expr_small (narrow wide) true) (λ x le. head_behind_settled wide true range x (omega (arith, le)))

-- an expression that begins a header of so few words is no deeper
abbrev pub HeadWithin : ℕ → Head → Type 0
HeadWithin k (expression x) = x.depth ≤ k
HeadWithin k (statement s) = Unit {0}
HeadWithin k (range_over ps) = Unit {0}

head_within : (ranged : Bool) (b : ℕ) (ts : List Word) (h : Head) (rest : List Word) → HeadRead in_header ranged b b ts h rest → HeadWithin b h
head_within ranged b ts (expression x) rest r = omega (arith, r.part.sized, r.part.shallow)
head_within ranged b ts (statement s) rest r = tt
head_within ranged b ts (range_over ps) rest r = tt

pub head_small : {n b c : ℕ} → Wide n b c → (range : Bool) (ws : List Word) → length ws < n → Each (HeadWithin (4 * n + 5)) (head (suc b) range ws)
head_small {n = n} {b = b} wide range ws lt =
    let small : Wide n (4 * n + 4) b = record { one = omega arith; other = wide.one } in
    holds_at (mono (head_holds (suc (4 * n + 4)) range ws) (λ h r k. within_five h (head_within range (suc (4 * n + 4)) ws h r k)) (λ r _. tt)) ((head_settled small range).at ws lt)
  where
    within_five : (h : Head) → HeadWithin (suc (4 * n + 4)) h → HeadWithin (4 * n + 5) h
    within_five (expression x) le = omega (arith, le)
    within_five (statement s) le = tt
    within_five (range_over ps) le = tt

pub maybe_simple_settled : {n b c : ℕ} → Wide n b c → Settled n (maybe_simple (suc b)) (maybe_simple (suc c))
unfolding maybe_simple
maybe_simple_settled wide = settled_maybe (simple_settled wide true)
