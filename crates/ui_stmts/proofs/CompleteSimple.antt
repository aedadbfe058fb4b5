-- Simple statements are read, and what begins a header.
use Rattle.std.proofs.Common.{◌≡◌, ℕ, zero, suc, ◌≤◌, Bool, true, false, List, Some, None, Ok, Err, refl, ◌∙◌, arith}
use Rattle.ui_base.specs.declared.value.Spot.{Spot}
use Rattle.ui_scan.specs.declared.kind.TokenKind.TheVariants.{Range}
use Rattle.ui_tree.specs.Tree.{Tree, Trees}
use Rattle.ui_tree.specs.Stmt.{places, Stmt, empty, alone, assign, op_assign, define, increment, decrement}
use Rattle.ui_grammar.specs.Word.{Word, Mark}
use Rattle.ui_grammar.specs.Spells.{Spells}
use Rattle.ui_grammar.specs.Fits.{in_header, Fits, FitsTrees, depth, trees_depth}
use Rattle.ui_grammar.specs.Statement.{SpellsStmt, SpellsPlaces, FitsStmt, stmt_depth, is_empty, is_simple}
use Rattle.ui_parse.specs.Reader.{Outcome, Reader, and_then}
use Rattle.ui_syntax.specs.Exprs.{of_tree}
use Rattle.ui_syntax.specs.Read.{place_of, expr, place_at}
use Rattle.ui_syntax.proofs.Places.{depth_positive}
use Rattle.ui_stmts.specs.Common.{sized}
use Rattle.ui_stmts.specs.Simple.{Head, expression, statement, range_over, head_behind, simple_of, simple, head, maybe_simple}
use Rattle.ui_stmts.proofs.CompleteFirst.{NoExpr, expr_none}
use Rattle.ui_stmts.proofs.CompleteMaybe.{maybe_some, maybe_none}
use Rattle.ui_stmts.proofs.CompleteValues.{exprs_positive}
use Rattle.ui_stmts.proofs.CompleteMarks.{EndsHead}
use Rattle.ui_stmts.proofs.CompleteFronts.{front, assign_read, op_assign_read, increment_read, decrement_read}
use Rattle.ui_stmts.proofs.CompleteHeads.{define_read, alone_read, places_read}

pub stmt_positive : (t : Stmt) → 1 ≤ stmt_depth t
stmt_positive empty = omega arith
stmt_positive _ = omega arith

-- a simple statement with words that is no expression alone
abbrev pub is_operation : Stmt → Bool
is_operation (assign s l r) = true
is_operation (op_assign s l o r) = true
is_operation (define s ns es) = true
is_operation (increment s e) = true
is_operation (decrement s e) = true
is_operation _ = false

pub data SimpleCase : Stmt → Type 0 where
  an_empty : SimpleCase empty
  an_expression : (e : Tree) → SimpleCase (alone e)
  an_operation : {t : Stmt} → is_operation t ≡ true → SimpleCase t

pub simple_case : (t : Stmt) → is_simple t ≡ true → SimpleCase t
simple_case empty e = an_empty
simple_case (alone x) e = an_expression x
simple_case (assign s l r) e = an_operation refl
simple_case (op_assign s l o r) e = an_operation refl
simple_case (define s ns es) e = an_operation refl
simple_case (increment s x) e = an_operation refl
simple_case (decrement s x) e = an_operation refl
simple_case _ e = absurd cc

module _ (start room : ℕ) (header ranged : Bool) (wide : room ≤ start) where
  pub operation_read : (t : Stmt) (ts rest : List Word) → is_operation t ≡ true → SpellsStmt t ts rest → FitsStmt t (place_at (place_of header)) → stmt_depth t ≤ suc room → EndsHead header rest
      → front start room header ranged wide ts ≡ Ok (statement (sized t (stmt_depth t)), rest)
  operation_read (assign s l r) ts rest o sp f le ends = assign_read start room header ranged wide s l r ts sp.0 sp.1 rest sp.2 sp.3 sp.4 sp.5 f.0 f.1 (omega (arith, le)) (omega (arith, le)) ends.exprs
  operation_read (op_assign s l op r) ts rest o sp f le ends = op_assign_read start room header ranged wide s l op r ts sp.0 sp.1 rest sp.2 sp.3 sp.4 sp.5 f.0 f.1 (omega (arith, le)) (omega (arith, le)) ends.exprs.quiet
  operation_read (define s ns es) ts rest o sp f le ends = define_read start room header ranged wide s ns es ts sp.0 sp.1 rest sp.2 sp.3 sp.4 sp.5 f (omega (arith, le)) (omega (arith, le, exprs_positive es (place_at (place_of header)) sp.1 rest sp.5 f)) ends.exprs
  operation_read (increment s e) ts rest o sp f le ends = increment_read start room header ranged wide s e ts sp.0 rest sp.1 sp.2 sp.3 f (omega (arith, le))
  operation_read (decrement s e) ts rest o sp f le ends = decrement_read start room header ranged wide s e ts sp.0 rest sp.1 sp.2 sp.3 f (omega (arith, le))
  operation_read _ ts rest o sp f le ends = absurd cc

-- ---- simple statements

bind_twice : {A B C : Type 0} (o : Outcome A) (f : A → Reader B) (g : B → Reader C) → and_then o (λ a ws. and_then (f a ws) g) ≡ and_then (and_then o f) g
bind_twice (Ok p) f g = refl
bind_twice (Err ws) f g = refl

simple_is : (room : ℕ) (header : Bool) (ts : List Word) → simple room header ts ≡ and_then (front room room header false (omega arith) ts) simple_of
unfolding simple
simple_is room header ts = bind_twice (expr room header ts) (head_behind room header false) simple_of

pub simple_read : (room : ℕ) (header : Bool) (t : Stmt) (ts rest : List Word) → is_simple t ≡ true → is_empty t ≡ false → SpellsStmt t ts rest → FitsStmt t (place_at (place_of header)) → stmt_depth t ≤ suc room → EndsHead header rest
    → simple room header ts ≡ Ok (sized t (stmt_depth t), rest)
simple_read room header t ts rest is words sp f le ends = by_case t (simple_case t is) words sp f le
  where
    by_case : (t : Stmt) → SimpleCase t → is_empty t ≡ false → SpellsStmt t ts rest → FitsStmt t (place_at (place_of header)) → stmt_depth t ≤ suc room → simple room header ts ≡ Ok (sized t (stmt_depth t), rest)
    by_case _ an_empty w s g small = absurd cc
    by_case _ (an_expression e) w s g small = simple_is room header ts ∙ rw (alone_read room room header false (omega arith) e ts rest s g (omega (arith, small)) ends).is refl
    by_case t (an_operation o) w s g small = simple_is room header ts ∙ rw (operation_read room room header false (omega arith) t ts rest o s g small ends) refl

pub simple_none : (room : ℕ) (header : Bool) (ts : List Word) → NoExpr ts → simple room header ts ≡ Err ts
unfolding simple
simple_none room header ts n = rw (expr_none room header ts n) refl

pub maybe_simple_some : (room : ℕ) (t : Stmt) (ts rest : List Word) → is_simple t ≡ true → is_empty t ≡ false → SpellsStmt t ts rest → FitsStmt t in_header → stmt_depth t ≤ room → EndsHead true rest
    → maybe_simple room ts ≡ Ok (Some (sized t (stmt_depth t)), rest)
unfolding maybe_simple
maybe_simple_some zero t ts rest is words sp f le ends = absurd (omega (arith, le, stmt_positive t))
maybe_simple_some (suc room) t ts rest is words sp f le ends = maybe_some (simple room true) ts rest _ (simple_read room true t ts rest is words sp f le ends)

pub maybe_simple_none : (room : ℕ) (ts : List Word) → NoExpr ts → maybe_simple room ts ≡ Ok (None, ts)
unfolding maybe_simple
maybe_simple_none zero ts n = refl
maybe_simple_none (suc room) ts n = maybe_none (simple room true) ts (simple_none room true ts n)

-- ---- the front of a header

pub record HeadReads (o : Outcome Head) (e : Tree) (rest : List Word) : Type 0 where
  pub spot : Spot
  pub is : o ≡ Ok (expression (of_tree e spot (depth e)), rest)

pub head_alone : (room : ℕ) (ranged : Bool) (e : Tree) (ts rest : List Word) → Spells e ts rest → Fits e in_header → depth e ≤ room → EndsHead true rest → HeadReads (head room ranged ts) e rest
unfolding head
head_alone zero ranged e ts rest sp f le ends = absurd (omega (arith, le, depth_positive e in_header f))
head_alone (suc room) ranged e ts rest sp f le ends =
    let r = alone_read (suc room) room true ranged (omega arith) e ts rest sp f le ends in
    record { spot = r.spot; is = r.is }

pub head_operation : (room : ℕ) (ranged : Bool) (t : Stmt) (ts rest : List Word) → is_operation t ≡ true → SpellsStmt t ts rest → FitsStmt t in_header → stmt_depth t ≤ room → EndsHead true rest
    → head room ranged ts ≡ Ok (statement (sized t (stmt_depth t)), rest)
unfolding head
head_operation zero ranged t ts rest o sp f le ends = absurd (omega (arith, le, stmt_positive t))
head_operation (suc room) ranged t ts rest o sp f le ends = operation_read (suc room) room true ranged (omega arith) t ts rest o sp f le ends

pub head_places : (room : ℕ) (es : Trees) (defines : Bool) (ts a rest : List Word) → SpellsPlaces (places es defines) ts a → Mark Range a rest → FitsTrees es in_header → suc (trees_depth es) ≤ room
    → head room true ts ≡ Ok (range_over (sized (places es defines) (suc (trees_depth es))), rest)
unfolding head
head_places zero es defines ts a rest sp m f le = absurd (omega (arith, le))
head_places (suc room) es defines ts a rest sp m f le = places_read (suc room) room (omega arith) es defines ts a rest sp m f (omega (arith, le))

pub head_none : (room : ℕ) (ranged : Bool) (ts : List Word) → NoExpr ts → head room ranged ts ≡ Err ts
unfolding head
head_none zero ranged ts n = refl
head_none (suc room) ranged ts n = rw (expr_none (suc room) true ts n) refl
