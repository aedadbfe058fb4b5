-- Which words spell a statement, and which statements have the place that they stand in. Go specification, "Statements",
-- "Constant declarations", "Variable declarations".
use Rattle.std.specs.Prelude.{◌≡◌, ◌⊎◌, ℕ, suc, max, Bool, true, false, List, [], ◌∷◌, Option, Some, None, if◌then◌else◌}
use Rattle.ui_base.specs.declared.value.Spot.{Spot}
use Rattle.ui_scan.specs.declared.kind.TokenKind.{TokenKind}
use Rattle.ui_scan.specs.declared.kind.TokenKind.TheVariants.{LParen, RParen, LBrace, RBrace, Semi, Colon, Assign, Define, Inc, Dec, Const, Var, Return, Break, Continue, If, Else, For, Range, Switch, Case, Default}
use Rattle.ui_tree.specs.declared.part.Specs.{Specs}
use Rattle.ui_tree.specs.declared.part.Specs.TheVariants.{One, Grouped}
use Rattle.ui_tree.specs.Tree.{MaybeType, no_type, given_type, MaybeTree, absent, given}
use Rattle.ui_tree.specs.Stmt.{MaybeTrees, no_trees, given_trees, ValueGroup, Common, constants, variables, Places, no_places, places, Stmt, empty, common, block, alone, assign, op_assign, define, increment, decrement, returning, breaking, continuing, branch, loop, while_true, counting, ranging, switch, MaybeStmt, no_stmt, given_stmt, Braces, braces, Stmts, stmts_end, stmt_and, Clauses, clauses_end, clause_and}
use Rattle.ui_grammar.specs.Word.{Word, mark, Mark, Begins, Closes, Names}
use Rattle.ui_grammar.specs.Operator.{assign_mark_of}
use Rattle.ui_grammar.specs.Spells.{Spells, SpellsType, SpellsMaybeType, SpellsMaybe, SpellsExprs}
use Rattle.ui_grammar.specs.Fits.{Place, plain, in_header, plain_type, Fits, FitsMaybeType, FitsTrees, depth, trees_depth, maybe_depth, maybe_type_depth}

-- ---- one specification, or several in parentheses with semicolons, of which the last may be left out

abbrev pub SpecsTail : {S : Type 0} → (S → List Word → List Word → Type 0) → List S → List Word → List Word → Type 0
SpecsTail P [] ts rest = Closes Semi RParen ts rest
SpecsTail P (s ∷ ss) ts rest = (a b : List Word) × Mark Semi ts a × P s a b × SpecsTail P ss b rest

abbrev pub SpecsList : {S : Type 0} → (S → List Word → List Word → Type 0) → List S → List Word → List Word → Type 0
SpecsList P [] ts rest = Mark RParen ts rest
SpecsList P (s ∷ ss) ts rest = (a : List Word) × P s ts a × SpecsTail P ss a rest

abbrev pub SpellsSpecs : {S : Type 0} → (S → List Word → List Word → Type 0) → Specs S → List Word → List Word → Type 0
SpellsSpecs P (One s) ts rest = P s ts rest
SpellsSpecs P (Grouped ss) ts rest = (a : List Word) × Mark LParen ts a × SpecsList P ss a rest

abbrev pub AllSpecs : {S : Type 0} → (S → Type 0) → List S → Type 0
AllSpecs P [] = Unit {0}
AllSpecs P (s ∷ ss) = P s × AllSpecs P ss

abbrev pub FitsSpecs : {S : Type 0} → (S → Type 0) → Specs S → Type 0
FitsSpecs P (One s) = P s
FitsSpecs P (Grouped ss) = AllSpecs P ss

abbrev pub deepest : {S : Type 0} → (S → ℕ) → List S → ℕ
deepest f [] = 0
deepest f (s ∷ ss) = max (f s) (deepest f ss)

abbrev pub specs_depth : {S : Type 0} → (S → ℕ) → Specs S → ℕ
specs_depth f (One s) = f s
specs_depth f (Grouped ss) = deepest f ss

-- ---- constants and variables

-- [ [ Type ] "=" Exprs ]
abbrev pub SpellsConstantValue : MaybeType → MaybeTrees → List Word → List Word → Type 0
SpellsConstantValue no_type no_trees ts rest = ts ≡ rest
SpellsConstantValue (given_type t) no_trees ts rest = ⊥
SpellsConstantValue t (given_trees es) ts rest = (a b : List Word) × SpellsMaybeType t ts a × Mark Assign a b × SpellsExprs es b rest

-- Type [ "=" Exprs ] | "=" Exprs
abbrev pub SpellsVariableValue : MaybeType → MaybeTrees → List Word → List Word → Type 0
SpellsVariableValue no_type no_trees ts rest = ⊥
SpellsVariableValue (given_type t) no_trees ts rest = SpellsType t ts rest
SpellsVariableValue t (given_trees es) ts rest = (a b : List Word) × SpellsMaybeType t ts a × Mark Assign a b × SpellsExprs es b rest

-- Names [ [ Type ] "=" Exprs ]
abbrev pub SpellsConstant : ValueGroup → List Word → List Word → Type 0
SpellsConstant v ts rest = (a : List Word) × Names v.names ts a × SpellsConstantValue v.of v.values a rest

-- Names ( Type [ "=" Exprs ] | "=" Exprs )
abbrev pub SpellsVariable : ValueGroup → List Word → List Word → Type 0
SpellsVariable v ts rest = (a : List Word) × Names v.names ts a × SpellsVariableValue v.of v.values a rest

-- "const" ( CSpec | "(" { CSpec ";" } ")" ) | "var" ( VSpec | "(" { VSpec ";" } ")" )
abbrev pub SpellsCommon : Common → List Word → List Word → Type 0
SpellsCommon (constants s vs) ts rest = (a : List Word) × (ts ≡ mark Const s ∷ a) × SpellsSpecs SpellsConstant vs a rest
SpellsCommon (variables s vs) ts rest = (a : List Word) × (ts ≡ mark Var s ∷ a) × SpellsSpecs SpellsVariable vs a rest

abbrev pub FitsMaybeTrees : MaybeTrees → Type 0
FitsMaybeTrees no_trees = Unit {0}
FitsMaybeTrees (given_trees es) = FitsTrees es plain

abbrev pub FitsValue : ValueGroup → Type 0
FitsValue v = FitsMaybeType v.of plain_type × FitsMaybeTrees v.values

abbrev pub FitsCommon : Common → Type 0
FitsCommon (constants s vs) = FitsSpecs FitsValue vs
FitsCommon (variables s vs) = FitsSpecs FitsValue vs

abbrev pub maybe_trees_depth : MaybeTrees → ℕ
maybe_trees_depth no_trees = 0
maybe_trees_depth (given_trees es) = trees_depth es

abbrev pub value_depth : ValueGroup → ℕ
value_depth v = max (maybe_type_depth v.of) (maybe_trees_depth v.values)

abbrev pub common_depth : Common → ℕ
common_depth (constants s vs) = specs_depth value_depth vs
common_depth (variables s vs) = specs_depth value_depth vs

-- ---- parts of statements

-- the assignment with this operator, if there is one
abbrev pub MarkOfAssign : Option TokenKind → List Word → List Word → Type 0
MarkOfAssign None ts rest = ⊥
MarkOfAssign (Some k) ts rest = Mark k ts rest

-- [ Exprs ]
abbrev pub SpellsMaybeExprs : MaybeTrees → List Word → List Word → Type 0
SpellsMaybeExprs no_trees ts rest = ts ≡ rest
SpellsMaybeExprs (given_trees es) ts rest = SpellsExprs es ts rest

-- [ Exprs ( "=" | ":=" ) ]
abbrev pub SpellsPlaces : Places → List Word → List Word → Type 0
SpellsPlaces no_places ts rest = ts ≡ rest
SpellsPlaces (places es defines) ts rest = (a : List Word) × SpellsExprs es ts a × Mark (if defines then Define else Assign) a rest

-- "case" Exprs | "default"
abbrev pub SpellsCase : Spot → MaybeTrees → List Word → List Word → Type 0
SpellsCase s no_trees ts rest = ts ≡ mark Default s ∷ rest
SpellsCase s (given_trees es) ts rest = (a : List Word) × (ts ≡ mark Case s ∷ a) × SpellsExprs es a rest

abbrev pub is_empty : Stmt → Bool
is_empty empty = true
is_empty _ = false

-- ";", which may be left out before "}" where the statement has words
abbrev pub EndsStmt : Bool → List Word → List Word → Type 0
EndsStmt true ts rest = Mark Semi ts rest
EndsStmt false ts rest = Mark Semi ts rest ⊎ ((ts ≡ rest) × ((a : List Word) × Mark RBrace ts a))

-- ---- statements

abbrev mutual
  pub SpellsStmt : Stmt → List Word → List Word → Type 0
  SpellsStmt empty ts rest = ts ≡ rest
  SpellsStmt (common c) ts rest = SpellsCommon c ts rest
  SpellsStmt (block b) ts rest = SpellsBraces b ts rest
  -- Expr
  SpellsStmt (alone e) ts rest = Spells e ts rest
  -- Exprs "=" Exprs
  SpellsStmt (assign s l r) ts rest = (a b : List Word) × Begins s ts × SpellsExprs l ts a × Mark Assign a b × SpellsExprs r b rest
  -- Expr OpAssign Expr
  SpellsStmt (op_assign s l o r) ts rest = (a b : List Word) × Begins s ts × Spells l ts a × MarkOfAssign (assign_mark_of o) a b × Spells r b rest
  -- Names ":=" Exprs
  SpellsStmt (define s ns es) ts rest = (a b : List Word) × Begins s ts × Names ns ts a × Mark Define a b × SpellsExprs es b rest
  -- Expr ( "++" | "--" )
  SpellsStmt (increment s e) ts rest = (a : List Word) × Begins s ts × Spells e ts a × Mark Inc a rest
  SpellsStmt (decrement s e) ts rest = (a : List Word) × Begins s ts × Spells e ts a × Mark Dec a rest
  -- "return" [ Exprs ]
  SpellsStmt (returning s es) ts rest = (a : List Word) × (ts ≡ mark Return s ∷ a) × SpellsMaybeExprs es a rest
  SpellsStmt (breaking s) ts rest = ts ≡ mark Break s ∷ rest
  SpellsStmt (continuing s) ts rest = ts ≡ mark Continue s ∷ rest
  -- "if" [ Simple ";" ] Expr Block [ "else" ( If | Block ) ]
  SpellsStmt (branch s init e body other) ts rest = (a b c d : List Word) × (ts ≡ mark If s ∷ a) × SpellsInit init a b × Spells e b c × SpellsBraces body c d × SpellsElse other d rest
  -- "for" Block
  SpellsStmt (loop s body) ts rest = (a : List Word) × (ts ≡ mark For s ∷ a) × SpellsBraces body a rest
  -- "for" Expr Block
  SpellsStmt (while_true s e body) ts rest = (a b : List Word) × (ts ≡ mark For s ∷ a) × Spells e a b × SpellsBraces body b rest
  -- "for" Simple ";" [ Expr ] ";" Simple Block
  SpellsStmt (counting s init e post body) ts rest = (a b c d g h : List Word) × (ts ≡ mark For s ∷ a) × SpellsStmt init a b × Mark Semi b c × SpellsMaybe e c d × Mark Semi d g × SpellsStmt post g h × SpellsBraces body h rest
  -- "for" [ Exprs ( "=" | ":=" ) ] "range" Expr Block
  SpellsStmt (ranging s ps e body) ts rest = (a b c d : List Word) × (ts ≡ mark For s ∷ a) × SpellsPlaces ps a b × Mark Range b c × Spells e c d × SpellsBraces body d rest
  -- "switch" [ Simple ";" ] [ Expr ] "{" { ( "case" Exprs | "default" ) ":" { Stmt ";" } } "}"
  SpellsStmt (switch s init e cs) ts rest = (a b c d g : List Word) × (ts ≡ mark Switch s ∷ a) × SpellsInit init a b × SpellsMaybe e b c × Mark LBrace c d × SpellsClauses cs d g × Mark RBrace g rest

  -- [ Simple ";" ]
  pub SpellsInit : MaybeStmt → List Word → List Word → Type 0
  SpellsInit no_stmt ts rest = ts ≡ rest
  SpellsInit (given_stmt i) ts rest = (a : List Word) × SpellsStmt i ts a × Mark Semi a rest

  -- [ "else" ( If | Block ) ]
  pub SpellsElse : MaybeStmt → List Word → List Word → Type 0
  SpellsElse no_stmt ts rest = ts ≡ rest
  SpellsElse (given_stmt o) ts rest = (a : List Word) × Mark Else ts a × SpellsStmt o a rest

  -- "{" { Stmt ";" } "}"
  pub SpellsBraces : Braces → List Word → List Word → Type 0
  SpellsBraces (braces s ss e) ts rest = (a b : List Word) × (ts ≡ mark LBrace s ∷ a) × SpellsStmts ss a b × (b ≡ mark RBrace e ∷ rest)

  -- { Stmt ";" }
  pub SpellsStmts : Stmts → List Word → List Word → Type 0
  SpellsStmts stmts_end ts rest = ts ≡ rest
  SpellsStmts (stmt_and s ss) ts rest = (a b : List Word) × SpellsStmt s ts a × EndsStmt (is_empty s) a b × SpellsStmts ss b rest

  -- { ( "case" Exprs | "default" ) ":" { Stmt ";" } }
  pub SpellsClauses : Clauses → List Word → List Word → Type 0
  SpellsClauses clauses_end ts rest = ts ≡ rest
  SpellsClauses (clause_and s es ss cs) ts rest = (a b c : List Word) × SpellsCase s es ts a × Mark Colon a b × SpellsStmts ss b c × SpellsClauses cs c rest

-- ---- statements that fit

abbrev pub is_simple : Stmt → Bool
is_simple empty = true
is_simple (alone e) = true
is_simple (assign s l r) = true
is_simple (op_assign s l o r) = true
is_simple (define s ns es) = true
is_simple (increment s e) = true
is_simple (decrement s e) = true
is_simple _ = false

-- what may follow `else`
abbrev pub is_alternative : Stmt → Bool
is_alternative (block b) = true
is_alternative (branch s init e body other) = true
is_alternative _ = false

abbrev pub FitsMaybeIn : MaybeTree → Place → Type 0
FitsMaybeIn absent p = Unit {0}
FitsMaybeIn (given e) p = Fits e p

abbrev pub FitsPlaces : Places → Type 0
FitsPlaces no_places = Unit {0}
FitsPlaces (places es defines) = FitsTrees es in_header

abbrev mutual
  -- a statement whose expressions stand in this place: a header's, or elsewhere
  pub FitsStmt : Stmt → Place → Type 0
  FitsStmt empty p = Unit {0}
  FitsStmt (common c) p = FitsCommon c
  FitsStmt (block b) p = FitsBraces b
  FitsStmt (alone e) p = Fits e p
  FitsStmt (assign s l r) p = FitsTrees l p × FitsTrees r p
  FitsStmt (op_assign s l o r) p = Fits l p × Fits r p
  FitsStmt (define s ns es) p = FitsTrees es p
  FitsStmt (increment s e) p = Fits e p
  FitsStmt (decrement s e) p = Fits e p
  FitsStmt (returning s es) p = FitsMaybeTrees es
  FitsStmt (breaking s) p = Unit {0}
  FitsStmt (continuing s) p = Unit {0}
  FitsStmt (branch s init e body other) p = FitsInit init × Fits e in_header × FitsBraces body × FitsElse other
  FitsStmt (loop s body) p = FitsBraces body
  FitsStmt (while_true s e body) p = Fits e in_header × FitsBraces body
  FitsStmt (counting s init e post body) p = (is_simple init ≡ true) × FitsStmt init in_header × FitsMaybeIn e in_header × (is_simple post ≡ true) × FitsStmt post in_header × FitsBraces body
  FitsStmt (ranging s ps e body) p = FitsPlaces ps × Fits e in_header × FitsBraces body
  FitsStmt (switch s init e cs) p = FitsInit init × FitsMaybeIn e in_header × FitsClauses cs

  pub FitsInit : MaybeStmt → Type 0
  FitsInit no_stmt = Unit {0}
  FitsInit (given_stmt i) = (is_simple i ≡ true) × FitsStmt i in_header

  pub FitsElse : MaybeStmt → Type 0
  FitsElse no_stmt = Unit {0}
  FitsElse (given_stmt o) = (is_alternative o ≡ true) × FitsStmt o plain

  pub FitsBraces : Braces → Type 0
  FitsBraces (braces s ss e) = FitsStmts ss

  pub FitsStmts : Stmts → Type 0
  FitsStmts stmts_end = Unit {0}
  FitsStmts (stmt_and s ss) = FitsStmt s plain × FitsStmts ss

  pub FitsClauses : Clauses → Type 0
  FitsClauses clauses_end = Unit {0}
  FitsClauses (clause_and s es ss cs) = FitsMaybeTrees es × FitsStmts ss × FitsClauses cs

-- ---- depth: a statement counts one; what follows `else` is a statement, and what stands before `range` counts as one

abbrev pub places_depth : Places → ℕ
places_depth no_places = 0
places_depth (places es defines) = suc (trees_depth es)

abbrev mutual
  pub stmt_depth : Stmt → ℕ
  stmt_depth empty = 1
  stmt_depth (common c) = suc (common_depth c)
  stmt_depth (block b) = suc (braces_depth b)
  stmt_depth (alone e) = suc (depth e)
  stmt_depth (assign s l r) = suc (max (trees_depth l) (trees_depth r))
  stmt_depth (op_assign s l o r) = suc (max (depth l) (depth r))
  stmt_depth (define s ns es) = suc (trees_depth es)
  stmt_depth (increment s e) = suc (depth e)
  stmt_depth (decrement s e) = suc (depth e)
  stmt_depth (returning s es) = suc (maybe_trees_depth es)
  stmt_depth (breaking s) = 1
  stmt_depth (continuing s) = 1
  stmt_depth (branch s init e body other) = suc (max (max (maybe_stmt_depth init) (depth e)) (max (braces_depth body) (maybe_stmt_depth other)))
  stmt_depth (loop s body) = suc (braces_depth body)
  stmt_depth (while_true s e body) = suc (max (depth e) (braces_depth body))
  stmt_depth (counting s init e post body) = suc (max (max (stmt_depth init) (maybe_depth e)) (max (stmt_depth post) (braces_depth body)))
  stmt_depth (ranging s ps e body) = suc (max (max (places_depth ps) (depth e)) (braces_depth body))
  stmt_depth (switch s init e cs) = suc (max (max (maybe_stmt_depth init) (maybe_depth e)) (clauses_depth cs))

  pub maybe_stmt_depth : MaybeStmt → ℕ
  maybe_stmt_depth no_stmt = 0
  maybe_stmt_depth (given_stmt s) = stmt_depth s

  pub braces_depth : Braces → ℕ
  braces_depth (braces s ss e) = stmts_depth ss

  pub stmts_depth : Stmts → ℕ
  stmts_depth stmts_end = 0
  stmts_depth (stmt_and s ss) = max (stmt_depth s) (stmts_depth ss)

  pub clauses_depth : Clauses → ℕ
  clauses_depth clauses_end = 0
  clauses_depth (clause_and s es ss cs) = max (max (maybe_trees_depth es) (stmts_depth ss)) (clauses_depth cs)
