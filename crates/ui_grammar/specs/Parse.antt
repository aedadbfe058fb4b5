-- What a list of words has as its tree, and how far a list begins as a form does.
use Rattle.std.specs.Prelude.{◌≡◌, ℕ, ◌+◌, ◌<◌, ◌≤◌, List, [], ◌∷◌, ◌++◌, length, take}
use Rattle.ui_base.specs.declared.value.Spot.{Spot}
use Rattle.ui_scan.specs.declared.kind.TokenKind.TheVariants.{LParen, RParen, Comma, End}
use Rattle.ui_tree.specs.Tree.{TypeTree, func, Tree}
use Rattle.ui_tree.specs.Stmt.{File}
use Rattle.ui_grammar.specs.Word.{Word, mark}
use Rattle.ui_grammar.specs.Spells.{Spells, SpellsType, SpellsGroups, SpellsMaybeType}
use Rattle.ui_grammar.specs.Fits.{Place, Fits, FitsType, plain_type, depth, type_depth}
use Rattle.ui_grammar.specs.Declaration.{SpellsFile, FitsFile, file_depth}

-- how deep forms may nest
abbrev pub depth_limit : ℕ
depth_limit = 200

-- the words, all of them, are an expression in this place
pub record HasExpr (place : Place) (limit : ℕ) (ts : List Word) (t : Tree) : Type 0 where
  pub spells : Spells t ts []
  pub fits : Fits t place
  pub shallow : depth t ≤ limit

-- the words are a type
pub record HasType (limit : ℕ) (ts : List Word) (t : TypeTree) : Type 0 where
  pub spells : SpellsType t ts []
  pub fits : FitsType t plain_type
  pub shallow : type_depth t ≤ limit

-- a signature has the tree of a func type, which begins where the signature does
abbrev pub SpellsSignature : TypeTree → List Word → List Word → Type 0
SpellsSignature (func s gs r) ts rest = (a b : List Word) × (ts ≡ mark LParen s ∷ a) × SpellsGroups Comma RParen gs a b × SpellsMaybeType r b rest
SpellsSignature _ ts rest = ⊥

pub record HasSig (limit : ℕ) (ts : List Word) (t : TypeTree) : Type 0 where
  pub spells : SpellsSignature t ts []
  pub fits : FitsType t plain_type
  pub shallow : type_depth t ≤ limit

-- the words are a file, behind which the end of the text alone stands
pub record HasFile (limit : ℕ) (ts : List Word) (f : File) : Type 0 where
  pub end : Spot
  pub spells : SpellsFile f ts (mark End end ∷ [])
  pub fits : FitsFile f
  pub shallow : file_depth f ≤ limit

-- ---- the longest list of words with which some form begins

-- some form begins with these words
abbrev pub IsLive : {T : Type 0} → (List Word → T → Type 0) → List Word → Type 0
IsLive {T} Has front = (more : List Word) × (t : T) × Has (front ++ more) t

-- the first k words are live, and no more of them are
pub record IsLongest {T : Type 0} (Has : List Word → T → Type 0) (ts : List Word) (k : ℕ) : Type 0 where
  pub inside : k ≤ length ts
  pub live : IsLive Has (take k ts)
  pub no_longer : (n : ℕ) → k < n → n ≤ length ts → IsLive Has (take n ts) → ⊥

-- the longest live list is itself a form, and this is its tree
pub record IsFound {T : Type 0} (Has : List Word → T → Type 0) (ts : List Word) (t : T) (k : ℕ) : Type 0 where
  pub has : Has (take k ts) t
  pub longest : IsLongest Has ts k

-- the longest live list is no form; the fault stands at the word behind it
pub record IsFault {T : Type 0} (Has : List Word → T → Type 0) (ts : List Word) (k : ℕ) : Type 0 where
  pub none : (t : T) → Has (take k ts) t → ⊥
  pub longest : IsLongest Has ts k

-- what a reader of a form gives: its tree with how many words it has, or how many words are live
pub data Reading (T : Type 0) : Type 0 where
  found : T → ℕ → Reading T
  fault : ℕ → Reading T

abbrev pub Parses : {T : Type 0} → (List Word → T → Type 0) → List Word → Reading T → Type 0
Parses Has ts (found t k) = IsFound Has ts t k
Parses Has ts (fault k) = IsFault Has ts k

-- What a reader of a whole file gives: its tree, where all words are a file; else the longest live list.
abbrev pub ParsesFile : (limit : ℕ) → List Word → Reading File → Type 0
ParsesFile limit ts (found f k) = HasFile limit ts f
ParsesFile limit ts (fault k) = IsLongest (HasFile limit) ts k × ((f : File) → HasFile limit ts f → ⊥)

-- A fault at the word behind the first k is one of depth where a form without a limit begins with that word too.
abbrev pub PassesDepth : {T : Type 0} → (ℕ → List Word → T → Type 0) → List Word → ℕ → Type 0
PassesDepth Has ts k = (k < length ts) × ((limit : ℕ) × IsLive (Has limit) (take (k + 1) ts))
