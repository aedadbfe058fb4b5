-- Types that an operand begins with.
use Rattle.std.proofs.Common.{◌≡◌, ◌⊎◌, inl, inr, ℕ, suc, ◌≤◌, true, false, List, None, refl}
use Rattle.ui_scan.specs.declared.kind.TokenKind.TheVariants.{LParen}
use Rattle.ui_tree.specs.Tree.{TypeTree, named, counted}
use Rattle.ui_grammar.specs.Word.{Word, Begins}
use Rattle.ui_grammar.specs.Both.{is_expression, ends_open}
use Rattle.ui_grammar.specs.Spells.{SpellsType}
use Rattle.ui_grammar.specs.Fits.{plain_type, of_literal, is_named, is_pointer, type_depth, FitsType}
use Rattle.ui_parse.specs.Reader.{first, marked}
use Rattle.ui_syntax.specs.declared.site.Site.{Site}
use Rattle.ui_syntax.specs.Cover.{Read, is_counted, has_literals}
use Rattle.ui_syntax.specs.Exprs.{takes_types}
use Rattle.ui_syntax.proofs.Places.{literal_of_plain, plain_of_literal, type_positive, literal_positive}
use Rattle.ui_syntax.proofs.ByBudget.{type_room}

-- a type that is no expression, as an operand begins with it
pub record Operand (t : TypeTree) : Type 0 where
  pub no_expression : is_expression t ≡ false
  pub no_pointer : is_pointer t ≡ false
  pub fits : FitsType t plain_type ⊎ ((is_counted t ≡ true) × FitsType t of_literal)

-- such a type, that was read: if it does not stand alone, there is room for what follows it
pub record IsTypeOperand (room : ℕ) (site : Site) (ts : List Word) (t : Read TypeTree) (rest : List Word) : Type 0 where
  pub begins : Begins t.spot ts
  pub spells : SpellsType t.tree ts rest
  pub is : Operand t.tree
  pub sized : type_depth t.tree ≡ t.depth
  pub no_results : ends_open t.tree ≡ true → first (marked LParen) rest ≡ None
  pub short : (takes_types site ≡ false) ⊎ (is_counted t.tree ≡ true) → type_depth t.tree ≤ room
  pub alone : takes_types site ≡ true → is_counted t.tree ≡ false → type_room site (suc room) t.tree

-- ---- facts on such types

pub counted_literal : (t : TypeTree) → is_counted t ≡ true → has_literals t ≡ true
counted_literal (counted s t) e = refl
counted_literal _ e = absurd cc

pub literal_fits : (t : TypeTree) → has_literals t ≡ true → FitsType t plain_type ⊎ ((is_counted t ≡ true) × FitsType t of_literal) → FitsType t of_literal
literal_fits t e (inl f) = literal_of_plain t e f
literal_fits t e (inr f) = f.1

pub plain_fits : (t : TypeTree) → is_counted t ≡ false → FitsType t plain_type ⊎ ((is_counted t ≡ true) × FitsType t of_literal) → FitsType t plain_type
plain_fits t e (inl f) = f
plain_fits t e (inr f) = plain_of_literal t e f.1

pub unnamed : (t : TypeTree) → is_expression t ≡ false → is_named t ≡ false
unnamed (named n m vs) e = absurd cc
unnamed _ e = refl

pub operand_positive : (t : TypeTree) → FitsType t plain_type ⊎ ((is_counted t ≡ true) × FitsType t of_literal) → 1 ≤ type_depth t
operand_positive t (inl f) = type_positive t f
operand_positive t (inr f) = literal_positive t f.1
