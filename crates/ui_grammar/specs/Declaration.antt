-- Which words spell a declaration or a file, and which of these fit. Go specification, "Declarations and scope" and "Source
-- file organization".
use Rattle.std.specs.Prelude.{◌≡◌, ℕ, suc, max, Bool, true, false, ◌||◌, List, [], ◌∷◌, Option, Some, None}
use Rattle.ui_scan.specs.declared.kind.TokenKind.TheVariants.{LParen, RParen, LBracket, RBracket, Comma, Semi, Assign, Mul, Import as AnImport, «Type» as AType, Func, Package}
use Rattle.ui_tree.specs.declared.part.Placed.{Placed}
use Rattle.ui_tree.specs.Tree.{Groups, groups_end, group_and, MaybeType}
use Rattle.ui_tree.specs.Stmt.{Imported, Import, TypeGroup, Recv, MaybeGroups, no_groups, given_groups, Decl, common_decl, type_decl, method_decl, func_decl, File}
use Rattle.ui_grammar.specs.Word.{Word, mark, Named, Mark, Quoted, If, Names}
use Rattle.ui_grammar.specs.Both.{is_length}
use Rattle.ui_grammar.specs.Spells.{SpellsType, SpellsMaybeType, SpellsGroups, Labels}
use Rattle.ui_grammar.specs.Fits.{FitsType, FitsMaybeType, FitsGroups, plain_type, result, bound, all_named, all_bare, type_depth, maybe_type_depth, groups_depth}
use Rattle.ui_grammar.specs.Statement.{SpellsSpecs, FitsSpecs, deepest, specs_depth, AllSpecs, SpellsCommon, FitsCommon, common_depth, SpellsBraces, FitsBraces, braces_depth}

-- [ name ]
abbrev pub MaybeNamed : Option Placed → List Word → List Word → Type 0
MaybeNamed None ts rest = ts ≡ rest
MaybeNamed (Some p) ts rest = Named p ts rest

-- ---- imports

-- [ name ] string
abbrev pub SpellsImported : Imported → List Word → List Word → Type 0
SpellsImported i ts rest = (a : List Word) × MaybeNamed i.name ts a × Quoted i.path a rest

-- "import" ( ISpec | "(" { ISpec ";" } ")" )
abbrev pub SpellsImport : Import → List Word → List Word → Type 0
SpellsImport i ts rest = (a : List Word) × (ts ≡ mark AnImport i.spot ∷ a) × SpellsSpecs SpellsImported i.specs a rest

-- ---- type declarations

-- Names Bound { "," Names Bound } [ "," ] "]". Where the text is an array's length too, a comma has to follow it.
abbrev pub SpellsTypeParams : Bool → Groups → List Word → List Word → Type 0
SpellsTypeParams length groups_end ts rest = ⊥
SpellsTypeParams false (group_and ns t gs) ts rest = SpellsGroups Comma RBracket (group_and ns t gs) ts rest
SpellsTypeParams true (group_and ns t gs) ts rest = (a b c : List Word) × Labels ns ts a × SpellsType t a b × Mark Comma b c × Mark RBracket c rest

-- [ TPars ] | "="
abbrev pub SpellsTypeHead : Groups → Bool → List Word → List Word → Type 0
SpellsTypeHead groups_end false ts rest = ts ≡ rest
SpellsTypeHead groups_end true ts rest = Mark Assign ts rest
SpellsTypeHead (group_and ns t gs) false ts rest = (a : List Word) × Mark LBracket ts a × SpellsTypeParams (is_length (group_and ns t gs)) (group_and ns t gs) a rest
SpellsTypeHead (group_and ns t gs) true ts rest = ⊥

-- name [ TPars ] Type | name "=" Type
abbrev pub SpellsTypeGroup : TypeGroup → List Word → List Word → Type 0
SpellsTypeGroup t ts rest = (a b : List Word) × Named t.name ts a × SpellsTypeHead t.params t.alias a b × SpellsType t.of b rest

abbrev pub FitsTypeParams : Groups → Type 0
FitsTypeParams gs = (all_named gs ≡ true) × FitsGroups gs bound

abbrev pub FitsTypeGroup : TypeGroup → Type 0
FitsTypeGroup t = FitsTypeParams t.params × FitsType t.of plain_type

abbrev pub type_group_depth : TypeGroup → ℕ
type_group_depth t = max (groups_depth t.params) (type_depth t.of)

-- ---- functions and methods

-- [ "[" Names "]" ]
abbrev pub RecvParams : Option (List Placed) → List Word → List Word → Type 0
RecvParams None ts rest = ts ≡ rest
RecvParams (Some ns) ts rest = (a b : List Word) × Mark LBracket ts a × Names ns a b × Mark RBracket b rest

-- "(" [ name ] [ "*" ] name [ "[" Names "]" ] ")"
abbrev pub SpellsRecv : Recv → List Word → List Word → Type 0
SpellsRecv r ts rest = (a b c d e : List Word) × (ts ≡ mark LParen r.spot ∷ a) × MaybeNamed r.name a b × If r.pointer Mul b c × Named r.of c d × RecvParams r.params d e × Mark RParen e rest

-- [ TPars ]
abbrev pub SpellsMaybeParams : MaybeGroups → List Word → List Word → Type 0
SpellsMaybeParams no_groups ts rest = ts ≡ rest
SpellsMaybeParams (given_groups groups_end) ts rest = ⊥
SpellsMaybeParams (given_groups (group_and ns t gs)) ts rest = (a : List Word) × Mark LBracket ts a × SpellsGroups Comma RBracket (group_and ns t gs) a rest

-- Params [ Type | Params ]
abbrev pub SpellsSig : Groups → MaybeType → List Word → List Word → Type 0
SpellsSig gs r ts rest = (a b : List Word) × Mark LParen ts a × SpellsGroups Comma RParen gs a b × SpellsMaybeType r b rest

abbrev pub FitsSig : Groups → MaybeType → Type 0
FitsSig gs r = ((all_named gs || all_bare gs) ≡ true) × FitsGroups gs plain_type × FitsMaybeType r result

abbrev pub FitsMaybeParams : MaybeGroups → Type 0
FitsMaybeParams no_groups = Unit {0}
FitsMaybeParams (given_groups gs) = FitsTypeParams gs

abbrev pub maybe_groups_depth : MaybeGroups → ℕ
maybe_groups_depth no_groups = 0
maybe_groups_depth (given_groups gs) = groups_depth gs

-- ---- declarations

abbrev pub SpellsDecl : Decl → List Word → List Word → Type 0
SpellsDecl (common_decl c) ts rest = SpellsCommon c ts rest
-- "type" ( TSpec | "(" { TSpec ";" } ")" )
SpellsDecl (type_decl s specs) ts rest = (a : List Word) × (ts ≡ mark AType s ∷ a) × SpellsSpecs SpellsTypeGroup specs a rest
-- "func" Recv name Sig Block
SpellsDecl (method_decl s recv n gs r body) ts rest = (a b c d : List Word) × (ts ≡ mark Func s ∷ a) × SpellsRecv recv a b × Named n b c × SpellsSig gs r c d × SpellsBraces body d rest
-- "func" name [ TPars ] Sig Block
SpellsDecl (func_decl s n ps gs r body) ts rest = (a b c d : List Word) × (ts ≡ mark Func s ∷ a) × Named n a b × SpellsMaybeParams ps b c × SpellsSig gs r c d × SpellsBraces body d rest

abbrev pub FitsDecl : Decl → Type 0
FitsDecl (common_decl c) = FitsCommon c
FitsDecl (type_decl s specs) = FitsSpecs FitsTypeGroup specs
FitsDecl (method_decl s recv n gs r body) = FitsSig gs r × FitsBraces body
FitsDecl (func_decl s n ps gs r body) = FitsMaybeParams ps × FitsSig gs r × FitsBraces body

-- A signature counts as a func type does.
abbrev pub sig_depth : Groups → MaybeType → ℕ
sig_depth gs r = suc (max (groups_depth gs) (maybe_type_depth r))

abbrev pub decl_depth : Decl → ℕ
decl_depth (common_decl c) = common_depth c
decl_depth (type_decl s specs) = specs_depth type_group_depth specs
decl_depth (method_decl s recv n gs r body) = max (sig_depth gs r) (braces_depth body)
decl_depth (func_decl s n ps gs r body) = max (maybe_groups_depth ps) (max (sig_depth gs r) (braces_depth body))

-- ---- files

-- { X ";" }
abbrev pub SpellsEach : {S : Type 0} → (S → List Word → List Word → Type 0) → List S → List Word → List Word → Type 0
SpellsEach P [] ts rest = ts ≡ rest
SpellsEach P (s ∷ ss) ts rest = (a b : List Word) × P s ts a × Mark Semi a b × SpellsEach P ss b rest

-- "package" name ";" { Import ";" } { Decl ";" }
abbrev pub SpellsFile : File → List Word → List Word → Type 0
SpellsFile f ts rest = (a b c d : List Word) × (ts ≡ mark Package f.spot ∷ a) × Named f.package_name a b × Mark Semi b c × SpellsEach SpellsImport f.imports c d × SpellsEach SpellsDecl f.decls d rest

abbrev pub FitsFile : File → Type 0
FitsFile f = AllSpecs FitsDecl f.decls

abbrev pub file_depth : File → ℕ
file_depth f = deepest decl_depth f.decls
