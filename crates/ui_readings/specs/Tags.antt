-- Where a string is a field's tag. Go specification, "Struct types".
use Rattle.std.specs.Prelude.{◌≡◌, ◌⊎◌, ◌↔◌, false, List, [], ◌∷◌, ◌++◌, reverse, Some}
use Rattle.ui_base.specs.declared.value.Spot.{Spot}
use Rattle.ui_base.specs.declared.value.Value.{Value}
use Rattle.ui_scan.specs.declared.kind.TokenKind.TheVariants.{Str, Struct, LBrace, Semi}
use Rattle.ui_tree.specs.declared.part.Placed.{Placed}
use Rattle.ui_tree.specs.declared.part.LiteralKind.TheVariants.{Text}
use Rattle.ui_tree.specs.Tree.{TypeTree, Groups, groups_end, group_and}
use Rattle.ui_grammar.specs.Word.{Word, lit, mark, Mark, Names}
use Rattle.ui_grammar.specs.Spells.{SpellsType}
use Rattle.ui_grammar.specs.Parse.{HasType}
use Rattle.ui_pexpr.specs.declared.fault.Form.TheVariants.{Tag}
use Rattle.ui_pexpr.specs.Back.{kind_at, opening}
use Rattle.ui_pexpr.specs.Forms.{form_at}

-- Names Type: the words, all of them, are a field
pub record IsField (ts : List Word) : Type 0 where
  pub names : List Placed
  pub rest : List Word
  pub type : TypeTree
  pub named : Names names ts rest
  pub typed : HasType 199 rest type

-- ---- by the productions

-- { Names Type ";" }: fields, each with its semicolon
abbrev pub SpellsFields : Groups → List Word → List Word → Type 0
SpellsFields groups_end ts rest = ts ≡ rest
SpellsFields (group_and ns t gs) ts rest =
    (a b c : List Word) × Names ns ts a × SpellsType t a b × Mark Semi b c × SpellsFields gs c rest

-- what stands behind a struct's brace: fields, and then a field with nothing behind it
pub record EndsWithField (ts : List Word) : Type 0 where
  pub fields : Groups
  pub last : List Word
  pub before : SpellsFields fields ts last
  pub field : IsField last

-- Behind such words a string is a tag.
abbrev pub TagsBehindFields : Type 0
TagsBehindFields =
    (before ts : List Word) (s b at : Spot) (v : Value) → EndsWithField ts
    → form_at (before ++ mark Struct s ∷ mark LBrace b ∷ ts) (lit Text at v) ≡ Some Tag

-- ---- exactly

-- The brackets of these words are closed in them: whatever stands before, the bracket that is open behind them is the one
-- that was open before them.
abbrev pub IsClosed : List Word → Type 0
IsClosed ts = (back : List Word) → opening false 0 (reverse ts ++ back) ≡ opening false 0 back

-- empty, or with a semicolon at its end
abbrev pub IsParted : List Word → Type 0
IsParted ts = (ts ≡ []) ⊎ ((front : List Word) × (s : Spot) × (ts ≡ front ++ mark Semi s ∷ []))

-- The words end with a field of a struct that is open: the bracket that was opened last and isn't closed is the brace of
-- a struct, and behind it, or behind the semicolon, the words are a field.
pub record IsBehindField (front : List Word) : Type 0 where
  pub before : List Word
  pub struct_spot : Spot
  pub brace_spot : Spot
  pub middle : List Word
  pub last : List Word
  pub whole : front ≡ before ++ mark Struct struct_spot ∷ mark LBrace brace_spot ∷ (middle ++ last)
  pub closed : IsClosed (middle ++ last)
  pub parted : IsParted middle
  pub field : IsField last

-- A word is a tag just where it is a string, and the words before it end so.
abbrev pub TagsExactly : Type 0
TagsExactly =
    (front : List Word) (w : Word) → (form_at front w ≡ Some Tag) ↔ ((kind_at w ≡ Str) × IsBehindField front)
