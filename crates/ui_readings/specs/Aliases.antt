-- Where a `=` is that of an alias with type parameters. Go specification, "Alias declarations".
use Rattle.std.specs.Prelude.{◌≡◌, ◌⊎◌, ◌↔◌, ◌≤◌, List, [], ◌∷◌, ◌++◌, Some}
use Rattle.ui_base.specs.declared.value.Spot.{Spot}
use Rattle.ui_scan.specs.declared.kind.TokenKind.TheVariants.{Ident, LParen, LBracket, Semi, Assign, «Type» as AType}
use Rattle.ui_tree.specs.declared.part.Placed.{Placed}
use Rattle.ui_tree.specs.Tree.{Groups}
use Rattle.ui_tree.specs.Stmt.{TypeGroup}
use Rattle.ui_grammar.specs.Word.{Word, ident, mark, Mark}
use Rattle.ui_grammar.specs.Both.{is_length}
use Rattle.ui_grammar.specs.Fits.{groups_depth}
use Rattle.ui_grammar.specs.Declaration.{SpellsTypeParams, SpellsTypeGroup, FitsTypeParams}
use Rattle.ui_pexpr.specs.declared.fault.Form.TheVariants.{GenericAlias}
use Rattle.ui_pexpr.specs.Back.{kind_at}
use Rattle.ui_pdecl.specs.Forms.{form_at}
use Rattle.ui_readings.specs.Tags.{IsClosed, IsParted}

-- ---- by the productions

-- { TSpec ";" }: specifications, each with its semicolon
abbrev pub SpellsTypeSpecs : List TypeGroup → List Word → List Word → Type 0
SpellsTypeSpecs [] ts rest = ts ≡ rest
SpellsTypeSpecs (t ∷ us) ts rest =
    (a b : List Word) × SpellsTypeGroup t ts a × Mark Semi a b × SpellsTypeSpecs us b rest

-- "type", or "type" "(" { TSpec ";" }: words that end so, behind which a specification begins
abbrev pub BeginsType : List Word → Type 0
BeginsType before =
    ((front : List Word) × (s : Spot) × (before ≡ front ++ mark AType s ∷ []))
    ⊎ ((front : List Word) × (ts : List Word) × (s : Spot) × (p : Spot) × (us : List TypeGroup)
    × (before ≡ front ++ mark AType s ∷ mark LParen p ∷ ts) × SpellsTypeSpecs us ts [])

-- TPars, behind the bracket that opens them
pub record AreParams (ts : List Word) : Type 0 where
  pub params : Groups
  pub spells : SpellsTypeParams (is_length params) params ts []
  pub fits : FitsTypeParams params
  pub shallow : groups_depth params ≤ 200

-- Behind the name of a specification and its parameters `=` is that of a generic alias.
abbrev pub AliasesBehindParams : Type 0
AliasesBehindParams =
    (before ts : List Word) (n : Placed) (b at : Spot) → BeginsType before → AreParams ts
    → form_at (before ++ ident n ∷ mark LBracket b ∷ ts) (mark Assign at) ≡ Some GenericAlias

-- ---- exactly

-- "type", or "type" "(" and words that leave no bracket open, which end with a semicolon where there
-- are any
abbrev pub BeginsSpec : List Word → Type 0
BeginsSpec before =
    ((front : List Word) × (s : Spot) × (before ≡ front ++ mark AType s ∷ []))
    ⊎ ((front : List Word) × (middle : List Word) × (s : Spot) × (p : Spot)
    × (before ≡ front ++ mark AType s ∷ mark LParen p ∷ middle) × IsClosed middle × IsParted middle)

-- The words end with the parameters of a type: where a specification begins, a name stands, a
-- bracket, and then parameters with the bracket that closes them.
pub record IsBehindParams (front : List Word) : Type 0 where
  pub before : List Word
  pub name : Word
  pub bracket_spot : Spot
  pub params : List Word
  pub whole : front ≡ before ++ name ∷ mark LBracket bracket_spot ∷ params
  pub is_name : kind_at name ≡ Ident
  pub begins : BeginsSpec before
  pub are_params : AreParams params

-- A word is that of a generic alias just where it is `=`, and the words before it end so.
abbrev pub AliasesExactly : Type 0
AliasesExactly =
    (front : List Word) (w : Word)
    → (form_at front w ≡ Some GenericAlias) ↔ ((kind_at w ≡ Assign) × IsBehindParams front)
