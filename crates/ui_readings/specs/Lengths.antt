-- Type parameters whose words are an array's length too. Go specification, "Type parameter declarations".
use Rattle.std.specs.Prelude.{◌≡◌, ◌↔◌, true, List}
use Rattle.ui_scan.specs.declared.kind.TokenKind.TheVariants.{Comma, RBracket}
use Rattle.ui_tree.specs.Tree.{Tree, Groups, groups_end, group_and}
use Rattle.ui_grammar.specs.Word.{Word, Mark}
use Rattle.ui_grammar.specs.Both.{is_length}
use Rattle.ui_grammar.specs.Spells.{Labels, SpellsType, Spells}
use Rattle.ui_grammar.specs.Fits.{plain, Fits}
use Rattle.ui_grammar.specs.Declaration.{FitsTypeParams}

-- { "," Names Bound }
abbrev pub SpellsMoreParams : Groups → List Word → List Word → Type 0
SpellsMoreParams groups_end ts rest = ts ≡ rest
SpellsMoreParams (group_and ns t gs) ts rest =
    (a b c : List Word) × Mark Comma ts a × Labels ns a b × SpellsType t b c
    × SpellsMoreParams gs c rest

-- Names Bound { "," Names Bound }: no comma behind the last, nor the bracket
abbrev pub SpellsParams : Groups → List Word → List Word → Type 0
SpellsParams groups_end ts rest = ⊥
SpellsParams (group_and ns t gs) ts rest =
    (a b : List Word) × Labels ns ts a × SpellsType t a b × SpellsMoreParams gs b rest

-- an expression that the length of an array's type may be
pub record IsLengthText (ts rest : List Word) : Type 0 where
  pub tree : Tree
  pub spells : Spells tree ts rest
  pub fits : Fits tree plain

-- Type parameters that a bracket follows are a length just where their words are an expression that
-- fits there.
abbrev pub LengthsAreExpressions : Type 0
LengthsAreExpressions =
    (gs : Groups) (ts rest after : List Word) → SpellsParams gs ts rest → FitsTypeParams gs
    → Mark RBracket rest after → (is_length gs ≡ true) ↔ IsLengthText ts rest
