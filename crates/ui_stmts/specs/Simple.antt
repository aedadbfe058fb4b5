-- Readers of simple statements, and of what stands in the headers of others. Go specification, "Expression statements",
-- "Assignment statements", "IncDec statements", "Short variable declarations", "For statements with range clause".
use Rattle.std.specs.Prelude.{ℕ, zero, suc, max, Bool, true, false, List, [], ◌∷◌, Option, Some, None, nat_le, if◌then◌else◌}
use Rattle.ui_base.specs.declared.value.Spot.{Spot}
use Rattle.ui_base.specs.declared.kind.BinOp.{BinOp}
use Rattle.ui_scan.specs.declared.kind.TokenKind.TheVariants.{Comma, Assign, Define, Inc, Dec, Range}
use Rattle.ui_tree.specs.declared.part.Placed.{Placed}
use Rattle.ui_tree.specs.Tree.{Tree, literal, name, paren, convert, composite, elided, keyed, instance, selector, assert, index, sliced, call, type_arg, unary, binary}
use Rattle.ui_tree.specs.Stmt.{Places, places, Stmt, alone, assign, op_assign, define, increment, decrement}
use Rattle.ui_tree.specs.View.{trees}
use Rattle.ui_grammar.specs.Word.{Word, ident, lit, mark}
use Rattle.ui_grammar.specs.Operator.{assignment_of}
use Rattle.ui_parse.specs.Reader.{Reader, ◌>>=◌, pure, refuse, take_by, marked, expect}
use Rattle.ui_syntax.specs.Cover.{Read}
use Rattle.ui_syntax.specs.Types.{Listed, only}
use Rattle.ui_syntax.specs.Read.{expr}
use Rattle.ui_stmts.specs.Common.{Sized, sized, maybe, exprs, exprs_from}

-- an assignment's token with an operator
abbrev pub an_assignment : Word → Option BinOp
an_assignment (ident p) = None
an_assignment (lit k s v) = None
an_assignment (mark k s) = assignment_of k

abbrev pub name_in : Tree → Option Placed
name_in (name n) = Some n
name_in (literal s k v) = None
name_in (paren s e) = None
name_in (convert s t e) = None
name_in (composite s t es) = None
name_in (elided s es) = None
name_in (keyed s k e) = None
name_in (instance s f us) = None
name_in (selector s e n) = None
name_in (assert s e t) = None
name_in (index s e i) = None
name_in (sliced s e l h m) = None
name_in (call s f es spread) = None
name_in (type_arg t) = None
name_in (unary s o e) = None
name_in (binary s o l r) = None

abbrev pub name_and : Option Placed → Option (List Placed) → Option (List Placed)
name_and None ns = None
name_and (Some n) None = None
name_and (Some n) (Some ns) = Some (n ∷ ns)

-- the names, where all are names
abbrev pub names_in : List Tree → Option (List Placed)
names_in [] = Some []
names_in (e ∷ es) = name_and (name_in e) (names_in es)

-- What begins a header or is a statement: an expression, another simple statement, or the places of a range.
pub data Head : Type 0 where
  expression : Read Tree → Head
  statement : Sized Stmt → Head
  range_over : Sized Places → Head

abbrev pub stated : Stmt → ℕ → Head
stated s k = statement (sized s (suc k))

module _ (room : ℕ) (header ranged : Bool) where
  -- Within a statement of the budget `suc room`, expressions have one level less.

  abbrev pub assigned : Spot → Listed Tree → Reader Head
  assigned s l = exprs room header >>= (λ r. pure (stated (assign s (trees l.items) (trees r.items)) (max l.depth r.depth)))

  abbrev pub defined : Spot → List Placed → Reader Head
  defined s ns = exprs room header >>= (λ r. pure (stated (define s ns (trees r.items)) r.depth))

  -- "range" may follow in the header of a for
  abbrev pub or_range : Places → ℕ → Reader Head → Reader Head
  or_range ps k other = if ranged then take_by (marked Range) (λ _. pure (range_over (sized ps (suc k)))) other else other

  -- places that are no names: ":=" stands only before "range"
  abbrev pub or_defined : Listed Tree → Reader Head → Reader Head
  or_defined l other = if ranged then take_by (marked Define) (λ _. expect Range >>= (λ _. pure (range_over (sized (places (trees l.items) true) (suc l.depth))))) other else other

  abbrev pub defined_by : Spot → Listed Tree → Option (List Placed) → Reader Head
  defined_by s l None = or_defined l refuse
  defined_by s l (Some ns) = take_by (marked Define) (λ _. or_range (places (trees l.items) true) l.depth (defined s ns)) refuse

  -- "=" or ":=", and what is behind
  abbrev pub assignment : Spot → Listed Tree → Reader Head
  assignment s l = take_by (marked Assign) (λ _. or_range (places (trees l.items) false) l.depth (assigned s l)) (defined_by s l (names_in l.items))

  abbrev pub op_assigned : Read Tree → BinOp → Reader Head
  op_assigned x o = expr room header >>= (λ r. pure (stated (op_assign x.spot x.tree o r.tree) (max x.depth r.depth)))

  abbrev pub define_or : Read Tree → Option (List Placed) → Reader Head
  define_or x None = or_defined (only x.tree x.depth) (pure (expression x))
  define_or x (Some ns) = take_by (marked Define) (λ _. or_range (places (trees (x.tree ∷ [])) true) x.depth (defined x.spot ns)) (pure (expression x))

  -- what follows a first expression that leaves room for a statement around it
  abbrev pub behind_first : Read Tree → Reader Head
  behind_first x =
      take_by (marked Comma) (λ _. expr room header >>= (λ y. exprs_from room header (record { items = x.tree ∷ y.tree ∷ []; depth = max x.depth y.depth }) >>= (λ l. assignment x.spot l)))
      (take_by (marked Assign) (λ _. or_range (places (trees (x.tree ∷ [])) false) x.depth (assigned x.spot (only x.tree x.depth)))
      (take_by an_assignment (λ o. op_assigned x o)
      (take_by (marked Inc) (λ _. pure (stated (increment x.spot x.tree) x.depth))
      (take_by (marked Dec) (λ _. pure (stated (decrement x.spot x.tree) x.depth)) (define_or x (names_in (x.tree ∷ [])))))))

  unfoldable pub head_behind : Read Tree → Reader Head
  head_behind x = if nat_le x.depth room then behind_first x else pure (expression x)

-- a simple statement of the budget `suc room`, with words
abbrev pub simple_of : Head → Reader (Sized Stmt)
simple_of (expression x) = pure (sized (alone x.tree) (suc x.depth))
simple_of (statement s) = pure s
simple_of (range_over ps) = refuse

unfoldable pub simple : ℕ → Bool → Reader (Sized Stmt)
simple room header = expr room header >>= (λ x. head_behind room header false x >>= simple_of)

-- the front of a header, within a budget: an expression alone, or a statement
unfoldable pub head : ℕ → Bool → Reader Head
head zero ranged = refuse
head (suc room) ranged = expr (suc room) true >>= (λ x. head_behind room true ranged x)

-- a simple statement within a budget, or none
unfoldable pub maybe_simple : ℕ → Reader (Option (Sized Stmt))
maybe_simple zero = pure None
maybe_simple (suc room) = maybe (simple room true)
