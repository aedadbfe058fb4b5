-- Which words spell a type or an expression, production by production.
--
-- `Spells tree ts rest`: the words ts begin with a spelling of the tree, behind which rest is left. Beside each case stands
-- its production; Names, and lists with a separator and a closing mark, are in Word and at the end of each block here.
use Rattle.std.specs.Prelude.{◌≡◌, Bool, true, false, List, [], ◌∷◌, Option, Some, None}
use Rattle.ui_scan.specs.declared.kind.TokenKind.{TokenKind}
use Rattle.ui_scan.specs.declared.kind.TokenKind.TheVariants.{LParen, RParen, LBracket, RBracket, LBrace, RBrace, Comma, Semi, Period, Colon, Ellipsis, Mul, Or, Tilde, Map, Func, Struct, Interface}
use Rattle.ui_tree.specs.declared.part.Placed.{Placed}
use Rattle.ui_tree.specs.Tree.{TypeTree, named, parenthesized, pointer, slice, array, counted, mapping, func, listed, struct, interface, method, union, tilde, Args, no_args, args, Types, types_end, type_and, Groups, groups_end, group_and, MaybeType, no_type, given_type, Tree, literal, name, paren, convert, composite, elided, keyed, instance, selector, assert, index, sliced, call, type_arg, unary, binary, Trees, trees_end, tree_and, MaybeTree, absent, given}
use Rattle.ui_grammar.specs.Word.{Word, lit, mark, Named, Mark, Begins, Closes, If, Names}
use Rattle.ui_grammar.specs.Operator.{mark_of, prefix_mark_of}
use Rattle.ui_grammar.specs.Both.{is_expression}

-- "." name, or nothing
abbrev pub Member : Option Placed → List Word → List Word → Type 0
Member None ts rest = ts ≡ rest
Member (Some p) ts rest = (m : List Word) × Mark Period ts m × Named p m rest

-- the names of a group, none for a bare type
abbrev pub Labels : List Placed → List Word → List Word → Type 0
Labels [] ts rest = ts ≡ rest
Labels (p ∷ ps) ts rest = Names (p ∷ ps) ts rest

-- [ Expr ] | Expr ":" Expr: a third bound has a second before it
abbrev pub AreBounds : MaybeTree → MaybeTree → Type 0
AreBounds high absent = Unit {0}
AreBounds (given h) (given m) = Unit {0}
AreBounds absent (given m) = ⊥

abbrev mutual
  -- ---- types
  pub SpellsType : TypeTree → List Word → List Word → Type 0
  -- name [ "." name ] [ TArgs ]
  SpellsType (named n p vs) ts rest = (a b : List Word) × Named n ts a × Member p a b × SpellsArgs vs b rest
  -- "(" Type ")"
  SpellsType (parenthesized s t) ts rest = (a b : List Word) × (ts ≡ mark LParen s ∷ a) × SpellsType t a b × Mark RParen b rest
  -- "*" Type
  SpellsType (pointer s t) ts rest = (a : List Word) × (ts ≡ mark Mul s ∷ a) × SpellsType t a rest
  -- "[" "]" Type
  SpellsType (slice s t) ts rest = (a b : List Word) × (ts ≡ mark LBracket s ∷ a) × Mark RBracket a b × SpellsType t b rest
  -- "[" Expr "]" Type
  SpellsType (array s e t) ts rest = (a b c : List Word) × (ts ≡ mark LBracket s ∷ a) × Spells e a b × Mark RBracket b c × SpellsType t c rest
  -- "[" "..." "]" Type, of a literal alone
  SpellsType (counted s t) ts rest = (a b c : List Word) × (ts ≡ mark LBracket s ∷ a) × Mark Ellipsis a b × Mark RBracket b c × SpellsType t c rest
  -- "map" "[" Type "]" Type
  SpellsType (mapping s k t) ts rest = (a b c d : List Word) × (ts ≡ mark Map s ∷ a) × Mark LBracket a b × SpellsType k b c × Mark RBracket c d × SpellsType t d rest
  -- "func" Sig
  SpellsType (func s gs r) ts rest = (a b c : List Word) × (ts ≡ mark Func s ∷ a) × Mark LParen a b × SpellsGroups Comma RParen gs b c × SpellsMaybeType r c rest
  -- Params, as results
  SpellsType (listed s gs) ts rest = (a : List Word) × (ts ≡ mark LParen s ∷ a) × SpellsGroups Comma RParen gs a rest
  -- "struct" "{" { Names Type ";" } "}"
  SpellsType (struct s gs) ts rest = (a b : List Word) × (ts ≡ mark Struct s ∷ a) × Mark LBrace a b × SpellsGroups Semi RBrace gs b rest
  -- "interface" "{" { ( name Sig | Bound ) ";" } "}"
  SpellsType (interface s us) ts rest = (a b : List Word) × (ts ≡ mark Interface s ∷ a) × Mark LBrace a b × SpellsTypes Semi RBrace us b rest
  -- name Sig
  SpellsType (method n gs r) ts rest = (a b c : List Word) × Named n ts a × Mark LParen a b × SpellsGroups Comma RParen gs b c × SpellsMaybeType r c rest
  -- Term { "|" Term }
  SpellsType (union s us) ts rest = Begins s ts × SpellsTerms us ts rest
  -- "~" Type
  SpellsType (tilde s t) ts rest = (a : List Word) × (ts ≡ mark Tilde s ∷ a) × SpellsType t a rest

  -- [ Type | Params ]
  pub SpellsMaybeType : MaybeType → List Word → List Word → Type 0
  SpellsMaybeType no_type ts rest = ts ≡ rest
  SpellsMaybeType (given_type t) ts rest = SpellsType t ts rest

  -- [ "[" Type { "," Type } [ "," ] "]" ]
  pub SpellsArgs : Args → List Word → List Word → Type 0
  SpellsArgs no_args ts rest = ts ≡ rest
  SpellsArgs (args us) ts rest = (a : List Word) × Mark LBracket ts a × SpellsSomeTypes us a rest

  pub SpellsSomeTypes : Types → List Word → List Word → Type 0
  SpellsSomeTypes types_end ts rest = ⊥
  SpellsSomeTypes (type_and t us) ts rest = (a : List Word) × SpellsType t ts a × SpellsTypesTail Comma RBracket us a rest

  -- types with a separator between, perhaps one behind the last, and the closing mark
  pub SpellsTypes : TokenKind → TokenKind → Types → List Word → List Word → Type 0
  SpellsTypes separator close types_end ts rest = Mark close ts rest
  SpellsTypes separator close (type_and t us) ts rest = (a : List Word) × SpellsType t ts a × SpellsTypesTail separator close us a rest

  pub SpellsTypesTail : TokenKind → TokenKind → Types → List Word → List Word → Type 0
  SpellsTypesTail separator close types_end ts rest = Closes separator close ts rest
  SpellsTypesTail separator close (type_and t us) ts rest = (a b : List Word) × Mark separator ts a × SpellsType t a b × SpellsTypesTail separator close us b rest

  pub SpellsTerms : Types → List Word → List Word → Type 0
  SpellsTerms types_end ts rest = ⊥
  SpellsTerms (type_and t us) ts rest = (a : List Word) × SpellsType t ts a × SpellsTermsTail us a rest

  pub SpellsTermsTail : Types → List Word → List Word → Type 0
  SpellsTermsTail types_end ts rest = ts ≡ rest
  SpellsTermsTail (type_and t us) ts rest = (a b : List Word) × Mark Or ts a × SpellsType t a b × SpellsTermsTail us b rest

  -- groups of names with their type, likewise
  pub SpellsGroups : TokenKind → TokenKind → Groups → List Word → List Word → Type 0
  SpellsGroups separator close groups_end ts rest = Mark close ts rest
  SpellsGroups separator close (group_and ns t gs) ts rest = (a b : List Word) × Labels ns ts a × SpellsType t a b × SpellsGroupsTail separator close gs b rest

  pub SpellsGroupsTail : TokenKind → TokenKind → Groups → List Word → List Word → Type 0
  SpellsGroupsTail separator close groups_end ts rest = Closes separator close ts rest
  SpellsGroupsTail separator close (group_and ns t gs) ts rest = (a b c : List Word) × Mark separator ts a × Labels ns a b × SpellsType t b c × SpellsGroupsTail separator close gs c rest

  -- ---- expressions
  pub Spells : Tree → List Word → List Word → Type 0
  -- literal
  Spells (literal s k v) ts rest = ts ≡ lit k s v ∷ rest
  -- name
  Spells (name n) ts rest = Named n ts rest
  -- "(" Expr ")"
  Spells (paren s e) ts rest = (a b : List Word) × (ts ≡ mark LParen s ∷ a) × Spells e a b × Mark RParen b rest
  -- Type "(" Expr [ "," ] ")"
  Spells (convert s t e) ts rest = (a b c : List Word) × Begins s ts × SpellsType t ts a × Mark LParen a b × Spells e b c × Closes Comma RParen c rest
  -- LitType Lit
  Spells (composite s t es) ts rest = (a b : List Word) × Begins s ts × SpellsType t ts a × Mark LBrace a b × SpellsTrees RBrace false es b rest
  -- "{" [ Elem { "," Elem } [ "," ] ] "}"
  Spells (elided s es) ts rest = (a : List Word) × (ts ≡ mark LBrace s ∷ a) × SpellsTrees RBrace false es a rest
  -- Item ":" Item
  Spells (keyed s k e) ts rest = (a b : List Word) × Begins s ts × Spells k ts a × Mark Colon a b × Spells e b rest
  -- Primary TArgs
  Spells (instance s f us) ts rest = (a b : List Word) × Begins s ts × Spells f ts a × Mark LBracket a b × SpellsInstance us b rest
  -- Primary "." name
  Spells (selector s e n) ts rest = (a b : List Word) × Begins s ts × Spells e ts a × Mark Period a b × Named n b rest
  -- Primary "." "(" Type ")"
  Spells (assert s e t) ts rest = (a b c d : List Word) × Begins s ts × Spells e ts a × Mark Period a b × Mark LParen b c × SpellsType t c d × Mark RParen d rest
  -- Primary "[" Expr "]"
  Spells (index s e i) ts rest = (a b c : List Word) × Begins s ts × Spells e ts a × Mark LBracket a b × Spells i b c × Mark RBracket c rest
  -- Primary "[" [ Expr ] ":" ( [ Expr ] | Expr ":" Expr ) "]"
  Spells (sliced s e low high most) ts rest = (a b c d g h : List Word) × Begins s ts × Spells e ts a × Mark LBracket a b × SpellsMaybe low b c × Mark Colon c d × AreBounds high most × SpellsMaybe high d g × SpellsThird most g h × Mark RBracket h rest
  -- Primary "(" [ Arg { "," Arg } [ "..." ] [ "," ] ] ")"
  Spells (call s f es spread) ts rest = (a b : List Word) × Begins s ts × Spells f ts a × Mark LParen a b × SpellsTrees RParen spread es b rest
  -- Type, as an argument
  Spells (type_arg t) ts rest = SpellsType t ts rest
  -- ( "+" | "-" | "!" | "^" | "*" | "&" ) Unary
  Spells (unary s o e) ts rest = (a : List Word) × (ts ≡ mark (prefix_mark_of o) s ∷ a) × Spells e a rest
  -- Expr BinOp Expr
  Spells (binary s o l r) ts rest = (a b : List Word) × Begins s ts × Spells l ts a × Mark (mark_of o) a b × Spells r b rest

  pub SpellsMaybe : MaybeTree → List Word → List Word → Type 0
  SpellsMaybe absent ts rest = ts ≡ rest
  SpellsMaybe (given e) ts rest = Spells e ts rest

  -- [ ":" Expr ]
  pub SpellsThird : MaybeTree → List Word → List Word → Type 0
  SpellsThird absent ts rest = ts ≡ rest
  SpellsThird (given e) ts rest = (a : List Word) × Mark Colon ts a × Spells e a rest

  -- Type { "," Type } [ "," ] "]". One type alone that is an expression too is an index, unless a comma follows it.
  pub SpellsInstance : Types → List Word → List Word → Type 0
  SpellsInstance types_end ts rest = ⊥
  SpellsInstance (type_and t us) ts rest = (a : List Word) × SpellsType t ts a × SpellsInstanceTail (is_expression t) us a rest

  pub SpellsInstanceTail : Bool → Types → List Word → List Word → Type 0
  SpellsInstanceTail true types_end ts rest = (a : List Word) × Mark Comma ts a × Mark RBracket a rest
  SpellsInstanceTail false types_end ts rest = Closes Comma RBracket ts rest
  SpellsInstanceTail both (type_and t us) ts rest = (a b : List Word) × Mark Comma ts a × SpellsType t a b × SpellsTypesTail Comma RBracket us b rest

  -- expressions with commas between, perhaps one behind the last, and the closing mark; the last with `...` or without
  pub SpellsTrees : TokenKind → Bool → Trees → List Word → List Word → Type 0
  SpellsTrees close spread trees_end ts rest = (spread ≡ false) × Mark close ts rest
  SpellsTrees close spread (tree_and e es) ts rest = (a : List Word) × Spells e ts a × SpellsTreesTail close spread es a rest

  pub SpellsTreesTail : TokenKind → Bool → Trees → List Word → List Word → Type 0
  SpellsTreesTail close spread trees_end ts rest = (a : List Word) × If spread Ellipsis ts a × Closes Comma close a rest
  SpellsTreesTail close spread (tree_and e es) ts rest = (a b : List Word) × Mark Comma ts a × Spells e a b × SpellsTreesTail close spread es b rest

-- Expr { "," Expr }
abbrev pub SpellsMore : Trees → List Word → List Word → Type 0
SpellsMore trees_end ts rest = ts ≡ rest
SpellsMore (tree_and e es) ts rest = (a b : List Word) × Mark Comma ts a × Spells e a b × SpellsMore es b rest

abbrev pub SpellsExprs : Trees → List Word → List Word → Type 0
SpellsExprs trees_end ts rest = ⊥
SpellsExprs (tree_and e es) ts rest = (a : List Word) × Spells e ts a × SpellsMore es a rest
