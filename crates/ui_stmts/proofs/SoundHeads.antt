-- Simple statements and the places of a range: their forms, and what was read of them.
use Rattle.std.proofs.Common.{◌≡◌, ◌⊎◌, ℕ, suc, ◌≤◌, Bool, true, false, List, [], ◌∷◌, Option, Some, None, refl, sym, subst, arith}
use Rattle.ui_base.specs.declared.kind.BinOp.{BinOp}
use Rattle.ui_base.specs.declared.kind.BinOp.TheVariants as op
use Rattle.ui_scan.specs.declared.kind.TokenKind.{TokenKind}
use Rattle.ui_scan.specs.declared.kind.TokenKind.TheVariants as kind
use Rattle.ui_scan.specs.declared.kind.TokenKind.TheVariants.{Assign, Define, Range}
use Rattle.ui_tree.specs.declared.part.Placed.{Placed}
use Rattle.ui_tree.specs.Tree.{Tree, name}
use Rattle.ui_tree.specs.Stmt.{Places, places, Stmt, alone, assign, op_assign, define}
use Rattle.ui_tree.specs.View.{trees}
use Rattle.ui_grammar.specs.Word.{Word, ident, lit, mark, Mark, NamesTail, Names}
use Rattle.ui_grammar.specs.Operator.{assign_mark_of, assignment_of}
use Rattle.ui_grammar.specs.Spells.{Spells}
use Rattle.ui_grammar.specs.Fits.{Place, in_header, FitsTrees}
use Rattle.ui_grammar.specs.Statement.{MarkOfAssign, SpellsPlaces, SpellsStmt, is_empty, is_simple, FitsPlaces, FitsStmt, places_depth, stmt_depth}
use Rattle.ui_grammar.proofs.Frames.{Framed, Then, framed, framed_as, fill_word, fill, fill_exprs, fill_names, begins_by}
use Rattle.ui_syntax.proofs.ByBudget.{Begun, Stops}
use Rattle.ui_syntax.proofs.SoundExprsTrees.{PartForm}
use Rattle.ui_stmts.specs.Common.{Sized}
use Rattle.ui_stmts.specs.Simple.{an_assignment, name_in, name_and, names_in, Head, expression, statement, range_over}
use Rattle.ui_stmts.proofs.SoundLists.{ExprRead, Exprs, MoreExprs, ExprsForm, NamesForm}

-- ---- the forms

-- a simple statement with words, whose expressions stand in this place
pub record SimpleForm (p : Place) (b : ℕ) (ts rest : List Word) : Type 0 where
  pub tree : Stmt
  pub spells : SpellsStmt tree ts rest
  pub fits : FitsStmt tree p
  pub simple : is_simple tree ≡ true
  pub words : is_empty tree ≡ false
  pub shallow : stmt_depth tree ≤ b

pub record SimpleRead (p : Place) (b : ℕ) (ts : List Word) (s : Sized Stmt) (rest : List Word) : Type 0 where
  pub spells : SpellsStmt s.of ts rest
  pub fits : FitsStmt s.of p
  pub simple : is_simple s.of ≡ true
  pub words : is_empty s.of ≡ false
  pub sized : stmt_depth s.of ≡ s.depth
  pub shallow : s.depth ≤ b

-- places with `range` behind them
pub record RangeForm (p : Place) (b : ℕ) (ts rest : List Word) : Type 0 where
  pub of : Places
  pub middle : List Word
  pub spells : SpellsPlaces of ts middle
  pub behind : Mark Range middle rest
  pub fits : p ≡ in_header → FitsPlaces of
  pub shallow : places_depth of ≤ b

pub record RangeRead (p : Place) (b : ℕ) (ts : List Word) (ps : Sized Places) (rest : List Word) : Type 0 where
  pub middle : List Word
  pub spells : SpellsPlaces ps.of ts middle
  pub behind : Mark Range middle rest
  pub fits : p ≡ in_header → FitsPlaces ps.of
  pub sized : places_depth ps.of ≡ ps.depth
  pub shallow : ps.depth ≤ b

-- what begins a header: an expression of one budget, or a statement of another
abbrev pub HeadRead : Place → Bool → ℕ → ℕ → List Word → Head → List Word → Type 0
HeadRead p ranged eb b ts (expression x) rest = ExprRead p eb ts x rest
HeadRead p ranged eb b ts (statement s) rest = SimpleRead p b ts s rest
HeadRead p ranged eb b ts (range_over ps) rest = (ranged ≡ true) × RangeRead p b ts ps rest

-- a fault behind the first expression
abbrev pub BehindFault : Place → Bool → ℕ → List Word → List Word → Type 0
BehindFault p ranged b ts rest = Begun (SimpleForm p b) ts rest ⊎ ((ranged ≡ true) × Begun (RangeForm p b) ts rest)

abbrev pub HeadFault : Place → Bool → ℕ → ℕ → List Word → List Word → Type 0
HeadFault p ranged eb b ts rest = Stops (PartForm p eb) ts rest ⊎ BehindFault p ranged b ts rest

-- ---- their parts

-- an assignment's token with an operator
pub record OpMark (ts rest : List Word) : Type 0 where
  pub op : BinOp
  pub is : MarkOfAssign (assign_mark_of op) ts rest

assign_marks : (k : TokenKind) (o : BinOp) → assignment_of k ≡ Some o → assign_mark_of o ≡ Some k
assign_marks kind.AddAssign op.Add e = refl
assign_marks kind.SubAssign op.Sub e = refl
assign_marks kind.MulAssign op.Mul e = refl
assign_marks kind.DivAssign op.Div e = refl
assign_marks kind.RemAssign op.Rem e = refl
assign_marks kind.AndAssign op.And e = refl
assign_marks kind.OrAssign op.Or e = refl
assign_marks kind.XorAssign op.Xor e = refl
assign_marks kind.AndNotAssign op.AndNot e = refl
assign_marks kind.ShlAssign op.Shl e = refl
assign_marks kind.ShrAssign op.Shr e = refl
assign_marks _ _ e = absurd cc

frame_op : (w : Word) (o : BinOp) (rest : List Word) → an_assignment w ≡ Some o → Framed (λ us ws. MarkOfAssign (assign_mark_of o) us ws) (w ∷ rest) rest
frame_op (ident p) o rest e = absurd cc
frame_op (lit k s v) o rest e = absurd cc
frame_op (mark k s) o rest e = framed_as (framed (fill_word (mark k s) (mark k s ∷ rest) rest refl)) (λ us ws h. subst (λ (z : Option TokenKind). MarkOfAssign z us ws) (sym (assign_marks k o e)) (record { spot = s; is = h }))

pub op_marked : (w : Word) (o : BinOp) (rest : List Word) → an_assignment w ≡ Some o → MarkOfAssign (assign_mark_of o) (w ∷ rest) rest
op_marked w o rest e = let f = frame_op w o rest e in subst (λ (v : List Word). MarkOfAssign (assign_mark_of o) v rest) (sym f.parts) (f.again rest)

pub frame_op_mark : (w : Word) (o : BinOp) (rest : List Word) → an_assignment w ≡ Some o → Framed OpMark (w ∷ rest) rest
frame_op_mark w o rest e = framed_as (frame_op w o rest e) (λ us ws h. record { op = o; is = h })

-- expressions that are names

name_is : (e : Tree) (n : Placed) → name_in e ≡ Some n → e ≡ name n
name_is (name m) n e = cc
name_is _ n e = absurd cc

-- the names of a list, where all are names
record All (e : Tree) (es : List Tree) (ns : List Placed) : Type 0 where
  first : Placed
  others : List Placed
  is : e ≡ name first
  are : names_in es ≡ Some others
  all : ns ≡ first ∷ others

all_by : (e : Tree) (es : List Tree) (ns : List Placed) (o : Option Placed) (q : Option (List Placed)) → name_in e ≡ o → names_in es ≡ q → name_and o q ≡ Some ns → All e es ns
all_by e es ns None q e1 e2 h = absurd cc
all_by e es ns (Some n) None e1 e2 h = absurd cc
all_by e es ns (Some n) (Some ms) e1 e2 h = record { first = n; others = ms; is = name_is e n e1; are = e2; all = cc }

names_tail : (es : List Tree) (ns : List Placed) (ts rest : List Word) → names_in es ≡ Some ns → MoreExprs es ts rest → NamesTail ns ts rest
names_tail [] ns ts rest e h = let none : [] ≡ ns = cc in subst (λ (v : List Placed). NamesTail v ts rest) none h
names_tail (e1 ∷ es) ns ts rest e h =
    let a = all_by e1 es ns (name_in e1) (names_in es) refl refl e in
    subst (λ (v : List Placed). NamesTail v ts rest) (sym a.all) (h.0, h.1, h.2, subst (λ (v : Tree). Spells v h.0 h.1) a.is h.3, names_tail es a.others h.1 rest a.are h.4)

pub names_spelled : (es : List Tree) (ns : List Placed) (ts rest : List Word) → names_in es ≡ Some ns → Exprs es ts rest → Names ns ts rest
names_spelled [] ns ts rest e h = absurd h
names_spelled (e1 ∷ es) ns ts rest e h =
    let a = all_by e1 es ns (name_in e1) (names_in es) refl refl e in
    subst (λ (v : List Placed). Names v ts rest) (sym a.all) (h.0, subst (λ (v : Tree). Spells v ts h.0) a.is h.1, names_tail es a.others h.0 rest a.are h.2)

-- ---- what the parts make

module _ (p : Place) (room : ℕ) where
  pub alone_form : (us ws : List Word) → PartForm p room us ws → SimpleForm p (suc room) us ws
  alone_form us ws f = record { tree = alone f.tree; spells = f.spells; fits = f.fits; simple = refl; words = refl; shallow = omega (arith, f.shallow) }

  pub assign_form : (us ws : List Word) → Then (ExprsForm p room) (Then (Mark Assign) (ExprsForm p room)) us ws → SimpleForm p (suc room) us ws
  assign_form us ws h =
      let l = h.1 in
      let r = h.2.2 in
      let s = begins_by (fill_exprs (trees l.all) us h.0 l.spells) in
      record { tree = assign s.0 (trees l.all) (trees r.all); spells = (h.0, h.2.0, s.1, l.spells, h.2.1, r.spells); fits = (l.ok.0, r.ok.0); simple = refl; words = refl; shallow = omega (arith, l.ok.1, r.ok.1) }

  pub op_form : (us ws : List Word) → Then (PartForm p room) (Then OpMark (PartForm p room)) us ws → SimpleForm p (suc room) us ws
  op_form us ws h =
      let l = h.1 in
      let o = h.2.1 in
      let r = h.2.2 in
      let s = begins_by (fill l.tree us h.0 l.spells) in
      record { tree = op_assign s.0 l.tree o.op r.tree; spells = (h.0, h.2.0, s.1, l.spells, o.is, r.spells); fits = (l.fits, r.fits); simple = refl; words = refl; shallow = omega (arith, l.shallow, r.shallow) }

  pub define_form : (us ws : List Word) → Then NamesForm (Then (Mark Define) (ExprsForm p room)) us ws → SimpleForm p (suc room) us ws
  define_form us ws h =
      let ns = h.1 in
      let r = h.2.2 in
      let s = begins_by (fill_names ns.all us h.0 ns.spells) in
      record { tree = define s.0 ns.all (trees r.all); spells = (h.0, h.2.0, s.1, ns.spells, h.2.1, r.spells); fits = r.ok.0; simple = refl; words = refl; shallow = omega (arith, r.ok.1) }

  pub range_form : (us ws : List Word) → Then (ExprsForm p room) (Then (Mark Define) (Mark Range)) us ws → RangeForm p (suc room) us ws
  range_form us ws h = let l = h.1 in record { of = places (trees l.all) true; middle = h.2.0; spells = (h.0, l.spells, h.2.1); behind = h.2.2; fits = λ e. subst (FitsTrees (trees l.all)) e l.ok.0; shallow = omega (arith, l.ok.1) }
