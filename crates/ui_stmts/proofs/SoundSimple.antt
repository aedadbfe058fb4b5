-- Simple statements, and what begins headers, as they are read.
use Rattle.std.proofs.Common.{◌≡◌, inl, inr, ℕ, zero, suc, max, ◌≤◌, Bool, true, false, List, [], ◌∷◌, Option, Some, None, refl, sym, subst, arith}
use Rattle.std.specs.Prelude.{nat_le, if◌then◌else◌}
use Rattle.std.proofs.lemmas.Bool.{leb-true}
use Rattle.ui_base.specs.declared.value.Spot.{Spot}
use Rattle.ui_base.specs.declared.kind.BinOp.{BinOp}
use Rattle.ui_scan.specs.declared.kind.TokenKind.TheVariants.{Comma, Assign, Define, Inc, Dec, Range}
use Rattle.ui_tree.specs.declared.part.Placed.{Placed}
use Rattle.ui_tree.specs.Tree.{Tree}
use Rattle.ui_tree.specs.Stmt.{Stmt, places}
use Rattle.ui_tree.specs.View.{trees}
use Rattle.ui_grammar.specs.Word.{Word, mark, Mark, Begins}
use Rattle.ui_grammar.specs.Fits.{Place, in_header, FitsTrees}
use Rattle.ui_grammar.specs.Operator.{assign_mark_of}
use Rattle.ui_grammar.specs.Statement.{MarkOfAssign}
use Rattle.ui_grammar.proofs.Frames.{Then, frame_mark}
use Rattle.ui_parse.specs.Reader.{Reader, and_then, pure, refuse, take_by, marked}
use Rattle.ui_parse.proofs.Outcomes.{Holds, good, bad, bind, mono, choose, taken_holds, mark_holds, expect_holds}
use Rattle.ui_syntax.specs.Cover.{Read}
use Rattle.ui_syntax.specs.Types.{Listed, only}
use Rattle.ui_syntax.specs.Read.{expr}
use Rattle.ui_syntax.proofs.ByBudget.{Begun, Stops}
use Rattle.ui_syntax.proofs.Begun.{short_mark, short_then, begun_as, stops_as, behind, behind_none, behind_stops, before}
use Rattle.ui_syntax.proofs.SoundExprsTrees.{PartForm, IsPart}
use Rattle.ui_stmts.specs.Common.{Sized, exprs_from}
use Rattle.ui_stmts.specs.Simple.{an_assignment, names_in, Head, expression, statement, range_over, assigned, defined, or_range, or_defined, defined_by, assignment, op_assigned, define_or, behind_first, head_behind, simple_of, simple, head, maybe_simple}
use Rattle.ui_stmts.proofs.SoundLists.{MaybeRead, maybe_holds, in_place, ExprRead, expr_holds, short_part, frame_part, ExprsForm, ExprsAt, short_exprs, exprs_spelled, frame_exprs, first_expr, next_expr, next_stops, exprs_from_holds, exprs_holds, frame_names}
use Rattle.ui_stmts.proofs.SoundHeads.{SimpleForm, SimpleRead, HeadRead, BehindFault, HeadFault, OpMark, op_marked, frame_op_mark, names_spelled, alone_form, assign_form, op_form, define_form, range_form}

module _ (room : ℕ) (header ranged : Bool) (eb : ℕ) (ts : List Word) where
  abbrev place : Place
  place = in_place header

  abbrev Found : Head → List Word → Type 0
  Found = HeadRead place ranged eb (suc room) ts

  abbrev Fault : List Word → Type 0
  Fault = BehindFault place ranged (suc room) ts

  -- ---- behind a list of expressions, up to a

  module _ (s : Spot) (l : Listed Tree) (a : List Word) (begins : Begins s ts) (j : ExprsAt place room ts l a) where
    assign_missing : Fault a
    assign_missing = inl (begun_as (behind_none (frame_exprs j) (short_then (short_mark Assign) (short_exprs place room j.room))) (assign_form place room))

    assigned_holds : (w : List Word) → Mark Assign a w → Holds Found Fault (assigned room header ranged s l w)
    assigned_holds w m = bind (exprs_holds header room w)
        (λ r rest k. good (record { spells = (a, w, begins, exprs_spelled j, m, exprs_spelled k); fits = (j.are.fits, k.are.fits); simple = refl; words = refl; sized = omega (arith, j.are.sized, k.are.sized); shallow = omega (arith, j.are.shallow, k.are.shallow) }))
        (λ rest st. inl (begun_as (behind (frame_exprs j) (behind_stops (frame_mark Assign a w m) (short_exprs place room j.room) st)) (assign_form place room)))

    defined_holds : (ns : List Placed) (w : List Word) → names_in l.items ≡ Some ns → Mark Define a w → Holds Found Fault (defined room header ranged s ns w)
    defined_holds ns w e m =
        let names = names_spelled l.items ns ts a e (exprs_spelled j) in
        bind (exprs_holds header room w)
        (λ r rest k. good (record { spells = (a, w, begins, names, m, exprs_spelled k); fits = k.are.fits; simple = refl; words = refl; sized = omega (arith, k.are.sized); shallow = omega (arith, k.are.shallow) }))
        (λ rest st. inl (begun_as (behind (frame_names ns ts a names) (behind_stops (frame_mark Define a w m) (short_exprs place room j.room) st)) (define_form place room)))

    ranges : (defines : Bool) (w v : List Word) → ranged ≡ true → Mark (if defines then Define else Assign) a w → Mark Range w v → Found (range_over (record { of = places (trees l.items) defines; depth = suc l.depth })) v
    ranges defines w v is m r = (is, record { middle = w; spells = (a, exprs_spelled j, m); behind = r; fits = λ e. subst (FitsTrees (trees l.items)) e j.are.fits; sized = omega (arith, j.are.sized); shallow = omega (arith, j.are.shallow) })

    range_holds : (defines : Bool) (w : List Word) (other : Reader Head) → Mark (if defines then Define else Assign) a w → Holds Found Fault (other w) → Holds Found Fault (or_range room header ranged (places (trees l.items) defines) l.depth other w)
    range_holds defines w other m h = choose ranged (take_by (marked Range) (λ _. pure (range_over (record { of = places (trees l.items) defines; depth = suc l.depth }))) other) other w
        (λ is. mark_holds Range _ other w (λ x v e. good (ranges defines w v is m (record { spot = x; is = e }))) (λ _. h))
        (λ _. h)

    -- places that are no names, before `range`
    or_defined_holds : (other : Reader Head) → Holds Found Fault (other a) → Holds Found Fault (or_defined room header ranged l other a)
    or_defined_holds other h = choose ranged _ other a
        (λ is. mark_holds Define _ other a
        (λ x w e. bind (expect_holds {Q = λ y v. w ≡ mark Range y ∷ v} {F = Fault} Range w (λ y v e2. e2)
        (λ _. inr (is, begun_as (behind (frame_exprs j) (behind_none (frame_mark Define a w (record { spot = x; is = e })) (short_mark Range))) (range_form place room))))
        (λ y v e2. good (ranges true w v is (record { spot = x; is = e }) (record { spot = y; is = e2 }))) (λ r f. f))
        (λ _. h))
        (λ _. h)

    defined_by_holds : (o : Option (List Placed)) → names_in l.items ≡ o → Holds Found Fault (defined_by room header ranged s l o a)
    defined_by_holds None e = or_defined_holds refuse (bad assign_missing)
    defined_by_holds (Some ns) e = mark_holds Define _ refuse a
        (λ x w e2. range_holds true w (defined room header ranged s ns) (record { spot = x; is = e2 }) (defined_holds ns w e (record { spot = x; is = e2 })))
        (λ _. bad assign_missing)

    assignment_holds : Holds Found Fault (assignment room header ranged s l a)
    assignment_holds = mark_holds Assign _ _ a
        (λ x w e. range_holds false w (assigned room header ranged s l) (record { spot = x; is = e }) (assigned_holds w (record { spot = x; is = e })))
        (λ _. defined_by_holds (names_in l.items) refl)

  -- ---- behind a first expression, up to a

  module _ (x : Read Tree) (a : List Word) (whole : ExprRead place eb ts x a) where
    module _ (le : x.depth ≤ room) where
      part : IsPart place room ts x a
      part = record { spells = whole.part.spells; fits = whole.part.fits; sized = whole.part.sized; shallow = le }

      one : ExprsAt place room ts (only x.tree x.depth) a
      one = first_expr ts x a part

      list_fault : (rest : List Word) → Begun (ExprsForm place room) ts rest → Fault rest
      list_fault rest g = inl (begun_as (before g (short_then (short_mark Assign) (short_exprs place room one.room))) (assign_form place room))

      several_holds : (c : Spot) (w : List Word) → a ≡ mark Comma c ∷ w
          → Holds Found Fault (and_then (expr room header w) (λ y. λ v. and_then (exprs_from room header (record { items = x.tree ∷ y.tree ∷ []; depth = max x.depth y.depth }) v) (λ l. assignment room header ranged x.spot l)))
      several_holds c w e = bind (expr_holds room header w)
          (λ y v q. bind (exprs_from_holds header room ts (record { items = x.tree ∷ y.tree ∷ []; depth = max x.depth y.depth }) v (next_expr ts (only x.tree x.depth) c a w y v one e q.part))
          (λ l rest j. assignment_holds x.spot l rest whole.begins j) (λ rest g. list_fault rest g))
          (λ rest st. list_fault rest (next_stops ts (only x.tree x.depth) c a w rest one e st))

      op_holds : (o : BinOp) (w : Word) (rest : List Word) → a ≡ w ∷ rest → an_assignment w ≡ Some o → Holds Found Fault (op_assigned room header ranged x o rest)
      op_holds o w rest e is = bind (expr_holds room header rest)
          (λ r v q. good (record { spells = (a, rest, whole.begins, part.spells, subst (λ (u : List Word). MarkOfAssign (assign_mark_of o) u rest) (sym e) (op_marked w o rest is), q.part.spells); fits = (part.fits, q.part.fits); simple = refl; words = refl; sized = omega (arith, part.sized, q.part.sized); shallow = omega (arith, le, q.part.shallow) }))
          (λ v st. inl (begun_as (behind (frame_part part) (subst (λ (u : List Word). Begun (Then OpMark (PartForm place room)) u v) (sym e) (behind_stops (frame_op_mark w o rest is) (short_part place room one.room) st))) (op_form place room)))

      define_or_holds : (o : Option (List Placed)) → names_in (x.tree ∷ []) ≡ o → Holds Found Fault (define_or room header ranged x o a)
      define_or_holds None e = or_defined_holds x.spot (only x.tree x.depth) a whole.begins one (pure (expression x)) (good whole)
      define_or_holds (Some ns) e = mark_holds Define _ (pure (expression x)) a
          (λ y w e2. range_holds x.spot (only x.tree x.depth) a whole.begins one true w (defined room header ranged x.spot ns) (record { spot = y; is = e2 }) (defined_holds x.spot (only x.tree x.depth) a whole.begins one ns w e (record { spot = y; is = e2 })))
          (λ _. good whole)

      behind_first_holds : Holds Found Fault (behind_first room header ranged x a)
      behind_first_holds = mark_holds Comma _ _ a (λ c w e. several_holds c w e)
          (λ _. mark_holds Assign _ _ a (λ y w e. range_holds x.spot (only x.tree x.depth) a whole.begins one false w (assigned room header ranged x.spot (only x.tree x.depth)) (record { spot = y; is = e }) (assigned_holds x.spot (only x.tree x.depth) a whole.begins one w (record { spot = y; is = e })))
          (λ _. taken_holds an_assignment _ _ a (λ o w rest e is. op_holds o w rest e is)
          (λ _. mark_holds Inc _ _ a (λ y w e. good (record { spells = (a, whole.begins, part.spells, record { spot = y; is = e }); fits = part.fits; simple = refl; words = refl; sized = omega (arith, part.sized); shallow = omega (arith, le) }))
          (λ _. mark_holds Dec _ _ a (λ y w e. good (record { spells = (a, whole.begins, part.spells, record { spot = y; is = e }); fits = part.fits; simple = refl; words = refl; sized = omega (arith, part.sized); shallow = omega (arith, le) }))
          (λ _. define_or_holds (names_in (x.tree ∷ [])) refl)))))

    pub head_behind_holds : Holds Found Fault (head_behind room header ranged x a)
    unfolding head_behind
    head_behind_holds = choose (nat_le x.depth room) (behind_first room header ranged x) (pure (expression x)) a (λ le. behind_first_holds (leb-true _ _ le)) (λ _. good whole)

-- ---- whole statements

module _ (room : ℕ) (header : Bool) (ts : List Word) where
  abbrev Statement : Sized Stmt → List Word → Type 0
  Statement = SimpleRead (in_place header) (suc room) ts

  abbrev NoStatement : List Word → Type 0
  NoStatement = Stops (SimpleForm (in_place header) (suc room)) ts

  simple_of_holds : (h : Head) (rest : List Word) → HeadRead (in_place header) false room (suc room) ts h rest → Holds Statement NoStatement (simple_of h rest)
  simple_of_holds (expression x) rest q = good (record { spells = q.part.spells; fits = q.part.fits; simple = refl; words = refl; sized = omega (arith, q.part.sized); shallow = omega (arith, q.part.shallow) })
  simple_of_holds (statement s) rest r = good r
  simple_of_holds (range_over ps) rest r = let no : false ≡ true = r.0 in absurd cc

  no_range : (r : List Word) → BehindFault (in_place header) false (suc room) ts r → NoStatement r
  no_range r (inl g) = inr g
  no_range r (inr h) = let no : false ≡ true = h.0 in absurd cc

  pub simple_holds : Holds Statement NoStatement (simple room header ts)
  unfolding simple
  simple_holds = bind (expr_holds room header ts)
      (λ x a q. bind (head_behind_holds room header false room ts x a q) simple_of_holds no_range)
      (λ r st. stops_as st (alone_form (in_place header) room))

-- what begins a header, within a budget
pub head_holds : (b : ℕ) (ranged : Bool) (ts : List Word) → Holds (HeadRead in_header ranged b b ts) (HeadFault in_header ranged b b ts) (head b ranged ts)
unfolding head
head_holds zero ranged ts = bad (inl (inl refl))
head_holds (suc room) ranged ts = bind (expr_holds (suc room) true ts) (λ x a q. mono (head_behind_holds room true ranged (suc room) ts x a q) (λ h r k. k) (λ r f. inr f)) (λ r st. inl st)

pub maybe_simple_holds : (b : ℕ) (ts : List Word) → Holds (MaybeRead (SimpleRead in_header b ts) ts) (Begun (SimpleForm in_header b) ts) (maybe_simple b ts)
unfolding maybe_simple
maybe_simple_holds zero ts = good refl
maybe_simple_holds (suc room) ts = maybe_holds (simple room true) ts (λ r s. s) (simple_holds room true ts)
