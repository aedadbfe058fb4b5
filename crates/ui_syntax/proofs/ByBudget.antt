-- What readers of a budget read, and that they read it: the laws that each budget has from the one below it.
use Rattle.std.specs.Prelude.{◌≡◌, ◌⊎◌, ℕ, suc, ◌≤◌, true, false, List, ◌++◌, Option, Some, None, Ok}
use Rattle.ui_scan.specs.declared.kind.TokenKind.TheVariants.{LParen, LBracket, LBrace, RBrace, Period, Mul, Or, Map, Func, Struct, Interface}
use Rattle.ui_tree.specs.Tree.{TypeTree, Tree, type_arg, Trees}
use Rattle.ui_tree.specs.View.{trees}
use Rattle.ui_grammar.specs.Word.{Word, Begins}
use Rattle.ui_grammar.specs.Both.{is_expression, ends_open}
use Rattle.ui_grammar.specs.Spells.{Spells, SpellsType, SpellsTrees}
use Rattle.ui_grammar.specs.Fits.{element, plain_type, of_literal, interface_element, level, is_pointer, depth, type_depth, trees_depth, Fits, FitsType, FitsTrees}
use Rattle.ui_parse.specs.Reader.{Outcome, Reader, first, marked, named as a_name}
use Rattle.ui_parse.proofs.Outcomes.{Holds}
use Rattle.ui_syntax.specs.declared.site.Site.{Site}
use Rattle.ui_syntax.specs.declared.site.Site.TheVariants.{Header, Plain, Wrapped, Argument}
use Rattle.ui_syntax.specs.declared.site.TypeSite.{TypeSite}
use Rattle.ui_syntax.specs.declared.site.TypeSite.TheVariants as at
use Rattle.ui_syntax.specs.Cover.{Read, only_type, is_counted, is_parenthesized}
use Rattle.ui_syntax.specs.Types.{Nested, Listed}
use Rattle.ui_syntax.specs.Exprs.{is_header, an_operator}
use Rattle.ui_syntax.specs.Read.{place_at}

-- ---- fronts of forms

-- the words up to rest are a front of what the relation spells, whatever follows that
pub record Begun (R : List Word → List Word → Type 0) (ts rest : List Word) : Type 0 where
  pub front : List Word
  pub parts : ts ≡ front ++ rest
  pub more : List Word
  pub spells : (k : List Word) → R (front ++ (more ++ k)) k

-- where a fault stands: nothing was taken, or what was taken begins a form
abbrev pub Stops : (List Word → List Word → Type 0) → List Word → List Word → Type 0
Stops R ts rest = (ts ≡ rest) ⊎ Begun R ts rest

-- ---- types at their sites, within a budget

-- a type that an operand begins with: no name, parentheses or `*` of one
pub record IsOperandType (t : TypeTree) : Type 0 where
  pub no_expression : is_expression t ≡ false
  pub no_pointer : is_pointer t ≡ false
  pub no_parentheses : is_parenthesized t ≡ false
  pub fits : FitsType t plain_type ⊎ ((is_counted t ≡ true) × FitsType t of_literal)

abbrev pub FitsAt : TypeSite → ℕ → TypeTree → Type 0
FitsAt at.Plain b t = FitsType t plain_type × type_depth t ≤ b
FitsAt at.Element b t = FitsType t interface_element × type_depth t ≤ b
FitsAt at.Operand b t = IsOperandType t × type_depth t ≤ b
FitsAt at.Argument b t = IsOperandType t × type_depth t ≤ b × (is_counted t ≡ true → suc (type_depth t) ≤ b)

-- The form of a type there. A front goes on to one behind which parentheses are no results.
pub record TypeForm (p : TypeSite) (b : ℕ) (ts rest : List Word) : Type 0 where
  pub tree : TypeTree
  pub spells : SpellsType tree ts rest
  pub fits : FitsAt p b tree
  pub closed : ends_open tree ≡ false

pub record IsTypeRead (p : TypeSite) (b : ℕ) (ts : List Word) (x : Read TypeTree) (rest : List Word) : Type 0 where
  pub begins : Begins x.spot ts
  pub spells : SpellsType x.tree ts rest
  pub fits : FitsAt p b x.tree
  pub sized : type_depth x.tree ≡ x.depth
  pub no_results : ends_open x.tree ≡ true → first (marked LParen) rest ≡ None

abbrev pub IsMaybeRead : TypeSite → ℕ → List Word → Option (Read TypeTree) → List Word → Type 0
IsMaybeRead p b ts None rest = ts ≡ rest
IsMaybeRead p b ts (Some x) rest = IsTypeRead p b ts x rest

-- ---- expressions at their sites, and types for themselves

pub record FitsExpr (s : Site) (b least : ℕ) (e : Tree) : Type 0 where
  pub fits : Fits e (place_at s)
  pub shallow : depth e ≤ b
  pub binds : least ≤ level e

-- a type for itself: between parentheses one level is left for what they are part of
abbrev pub type_room : Site → ℕ → TypeTree → Type 0
type_room Header b t = ⊥
type_room Plain b t = ⊥
type_room Wrapped b t = suc (type_depth t) ≤ b
type_room Argument b t = type_depth t ≤ b

pub record FitsAlone (s : Site) (b : ℕ) (t : TypeTree) : Type 0 where
  pub no_expression : is_expression t ≡ false
  pub fits : FitsType t plain_type
  pub room : type_room s b t

pub record ExprForm (s : Site) (b least : ℕ) (ts rest : List Word) : Type 0 where
  pub tree : Tree
  pub spells : Spells tree ts rest
  pub fits : FitsExpr s b least tree

pub record AloneForm (s : Site) (b : ℕ) (ts rest : List Word) : Type 0 where
  pub tree : TypeTree
  pub spells : SpellsType tree ts rest
  pub fits : FitsAlone s b tree
  pub closed : ends_open tree ≡ false

abbrev pub CoverForm : Site → ℕ → ℕ → List Word → List Word → Type 0
CoverForm s b least ts rest = ExprForm s b least ts rest ⊎ AloneForm s b ts rest

abbrev pub FitsCover : Site → ℕ → ℕ → Tree → Option TypeTree → Type 0
FitsCover s b least e None = FitsExpr s b least e
FitsCover s b least e (Some t) = FitsAlone s b t

abbrev pub cover_depth : Tree → Option TypeTree → ℕ
cover_depth e None = depth e
cover_depth e (Some t) = type_depth t

-- Its depth is reached, or no operator comes that binds so tightly.
abbrev pub Ends : ℕ → ℕ → Read Tree → List Word → Type 0
Ends b least x rest = (first (an_operator least) rest ≡ None) ⊎ (b ≤ x.depth)

pub record IsExprRead (s : Site) (b least : ℕ) (ts : List Word) (x : Read Tree) (rest : List Word) : Type 0 where
  pub begins : Begins x.spot ts
  pub spells : Spells x.tree ts rest
  pub fits : FitsCover s b least x.tree (only_type x.tree)
  pub sized : cover_depth x.tree (only_type x.tree) ≡ x.depth
  pub ends : only_type x.tree ≡ None → Ends b least x rest

-- ---- elements in braces

pub record ElemsForm (b : ℕ) (ts rest : List Word) : Type 0 where
  pub all : Trees
  pub spells : SpellsTrees RBrace false all ts rest
  pub fits : FitsTrees all element
  pub shallow : suc (trees_depth all) ≤ b

pub record AreElemsRead (b : ℕ) (ts : List Word) (l : Listed Tree) (rest : List Word) : Type 0 where
  pub spells : SpellsTrees RBrace false (trees l.items) ts rest
  pub fits : FitsTrees (trees l.items) element
  pub sized : trees_depth (trees l.items) ≡ l.depth
  pub shallow : suc l.depth ≤ b

-- ---- what is read is right, and a fault stands behind a front

pub record IsSoundAt (b : ℕ) (level : Site → ℕ → Reader (Read Tree)) (maybe_type : TypeSite → Reader (Option (Read TypeTree))) : Type 0 where
  pub expr : (s : Site) (least : ℕ) (ts : List Word) → least ≤ 6 → Holds (IsExprRead s b least ts) (Stops (CoverForm s b least) ts) (level s least ts)
  pub type : (p : TypeSite) (ts : List Word) → Holds (IsMaybeRead p b ts) (Stops (TypeForm p b) ts) (maybe_type p ts)

-- the readers of a budget, with those of the next lower one
pub record IsSound (b low : ℕ) (n : Nested) : Type 0 where
  pub own : IsSoundAt b n.level n.maybe_type
  pub braces : (ts : List Word) → Holds (AreElemsRead b ts) (Stops (ElemsForm b) ts) (n.braces ts)
  pub lower : IsSoundAt low n.lower_level n.lower_maybe_type

-- ---- what is there is read

-- no type begins
pub record NoType (ts : List Word) : Type 0 where
  pub no_name : first a_name ts ≡ None
  pub no_func : first (marked Func) ts ≡ None
  pub no_struct : first (marked Struct) ts ≡ None
  pub no_interface : first (marked Interface) ts ≡ None
  pub no_bracket : first (marked LBracket) ts ≡ None
  pub no_map : first (marked Map) ts ≡ None
  pub no_pointer : first (marked Mul) ts ≡ None
  pub no_paren : first (marked LParen) ts ≡ None

-- what comes goes on with no type
pub record QuietType (t : TypeTree) (ts : List Word) : Type 0 where
  pub no_dot : first (marked Period) ts ≡ None
  pub no_bracket : first (marked LBracket) ts ≡ None
  pub no_result : ends_open t ≡ true → NoType ts

-- likewise at the site
abbrev pub QuietAt : TypeSite → TypeTree → List Word → Type 0
QuietAt at.Plain t ts = QuietType t ts
QuietAt at.Element t ts = NoType ts × QuietType t ts × (first (marked Or) ts ≡ None)
QuietAt at.Operand t ts = QuietType t ts
QuietAt at.Argument t ts = QuietType t ts

-- what comes goes on with no expression whose operators bind so tightly
pub record Quiet (s : Site) (least : ℕ) (ts : List Word) : Type 0 where
  pub no_dot : first (marked Period) ts ≡ None
  pub no_bracket : first (marked LBracket) ts ≡ None
  pub no_paren : first (marked LParen) ts ≡ None
  pub no_brace : is_header s ≡ false → first (marked LBrace) ts ≡ None
  pub no_operator : first (an_operator least) ts ≡ None

-- what comes goes on neither with a type nor with an operand that it begins
pub record QuietAlone (t : TypeTree) (ts : List Word) : Type 0 where
  pub quiet : QuietType t ts
  pub no_paren : first (marked LParen) ts ≡ None
  pub no_brace : first (marked LBrace) ts ≡ None

pub record ReadsTo (o : Outcome (Read Tree)) (e : Tree) (k : ℕ) (ts rest : List Word) : Type 0 where
  pub read : Read Tree
  pub is : o ≡ Ok (read, rest)
  pub tree : read.tree ≡ e
  pub depth : read.depth ≡ k
  pub begins : Begins read.spot ts

pub record TypeReadsTo (o : Outcome (Option (Read TypeTree))) (t : TypeTree) (ts rest : List Word) : Type 0 where
  pub read : Read TypeTree
  pub is : o ≡ Ok (Some read, rest)
  pub tree : read.tree ≡ t
  pub depth : read.depth ≡ type_depth t
  pub begins : Begins read.spot ts

pub record ElemsReadTo (o : Outcome (Listed Tree)) (es : Trees) (rest : List Word) : Type 0 where
  pub read : Listed Tree
  pub is : o ≡ Ok (read, rest)
  pub all : trees read.items ≡ es
  pub depth : read.depth ≡ trees_depth es

pub record IsCompleteAt (b : ℕ) (level : Site → ℕ → Reader (Read Tree)) (maybe_type : TypeSite → Reader (Option (Read TypeTree))) : Type 0 where
  pub expr : (s : Site) (least : ℕ) (ts rest : List Word) (e : Tree) → Spells e ts rest → FitsExpr s b least e → Quiet s least rest → ReadsTo (level s least ts) e (depth e) ts rest
  pub alone : (s : Site) (least : ℕ) (ts rest : List Word) (t : TypeTree) → SpellsType t ts rest → FitsAlone s b t → QuietAlone t rest → ReadsTo (level s least ts) (type_arg t) (type_depth t) ts rest
  pub type : (p : TypeSite) (ts rest : List Word) (t : TypeTree) → SpellsType t ts rest → FitsAt p b t → QuietAt p t rest → TypeReadsTo (maybe_type p ts) t ts rest
  pub no_type : (ts : List Word) → NoType ts → maybe_type at.Plain ts ≡ Ok (None, ts)

pub record IsComplete (b low : ℕ) (n : Nested) : Type 0 where
  pub own : IsCompleteAt b n.level n.maybe_type
  pub braces : (ts rest : List Word) (es : Trees) → SpellsTrees RBrace false es ts rest → FitsTrees es element → suc (trees_depth es) ≤ b → ElemsReadTo (n.braces ts) es rest
  pub lower : IsCompleteAt low n.lower_level n.lower_maybe_type
