-- Each type that fits is read from each of its spellings, and nothing where no type begins.
use Rattle.std.proofs.Common.{◌≡◌, ℕ, suc, ◌≤◌, List, None, Ok}
use Rattle.ui_base.specs.declared.value.Spot.{Spot}
use Rattle.ui_scan.specs.declared.kind.TokenKind.TheVariants.{RParen, Comma}
use Rattle.ui_tree.specs.Tree.{TypeTree, func, Groups, MaybeType}
use Rattle.ui_grammar.specs.Word.{Word}
use Rattle.ui_grammar.specs.Spells.{SpellsType, SpellsGroups, SpellsMaybeType}
use Rattle.ui_grammar.specs.Fits.{plain_type, type_depth, FitsType}
use Rattle.ui_syntax.specs.declared.site.TypeSite.{TypeSite}
use Rattle.ui_syntax.specs.declared.site.TypeSite.TheVariants as at
use Rattle.ui_syntax.specs.Types.{Nested, of_type, maybe_type, signature, func_of}
use Rattle.ui_syntax.proofs.ByBudget.{NoType, QuietType, QuietAt, FitsAt, TypeReadsTo, IsCompleteAt}
use Rattle.ui_syntax.proofs.SteadyTypes.{AreSteady}
use Rattle.ui_syntax.proofs.CompleteTypesBase.{Below}
use Rattle.ui_syntax.proofs.CompleteTypesSignature.{func_signature, quiet_func}
use Rattle.ui_syntax.proofs.CompleteTypesPlain.{plain_read, no_plain_type, at_operand_read, at_argument_read}
use Rattle.ui_syntax.proofs.CompleteTypesUnion.{element_read}

-- what is known of the readers below
as_below : (room low : ℕ) (inner : Nested) → (1 ≤ room → room ≡ suc low) → IsCompleteAt room inner.level inner.maybe_type → IsCompleteAt low inner.lower_level inner.lower_maybe_type → AreSteady inner → Below room low inner
as_below room low inner below own lower steady = record { below = below; own = own; lower = lower; steady = steady }

by_site : (room low : ℕ) (inner : Nested) → Below room low inner
    → (p : TypeSite) (ts rest : List Word) (t : TypeTree) → SpellsType t ts rest → FitsAt p (suc room) t → QuietAt p t rest → TypeReadsTo (maybe_type room inner p ts) t ts rest
unfolding maybe_type
by_site room low inner has at.Plain ts rest t s fits q = plain_read room low inner has t ts rest s fits.0 fits.1 q
by_site room low inner has at.Element ts rest t s fits q = element_read room low inner has t ts rest s fits.0 fits.1 q
by_site room low inner has at.Operand ts rest t s fits q = at_operand_read room low inner has _ t ts rest s fits.0 fits.1 q
by_site room low inner has at.Argument ts rest t s fits q = at_argument_read room low inner has _ t ts rest s fits.0 fits.1 fits.2 q

pub type_complete : (room low : ℕ) (inner : Nested) → (1 ≤ room → room ≡ suc low) → IsCompleteAt room inner.level inner.maybe_type → IsCompleteAt low inner.lower_level inner.lower_maybe_type → AreSteady inner
    → (p : TypeSite) (ts rest : List Word) (t : TypeTree) → SpellsType t ts rest → FitsAt p (suc room) t → QuietAt p t rest → TypeReadsTo (maybe_type room inner p ts) t ts rest
type_complete room low inner below own lower steady = by_site room low inner (as_below room low inner below own lower steady)

pub no_type_complete : (room : ℕ) (inner : Nested) (ts : List Word) → NoType ts → maybe_type room inner at.Plain ts ≡ Ok (None, ts)
unfolding maybe_type
no_type_complete room inner ts q = no_plain_type room inner ts q

-- a signature, behind its parenthesis, with the tree of a func type
pub sig_complete : (room low : ℕ) (inner : Nested) → (1 ≤ room → room ≡ suc low) → IsCompleteAt room inner.level inner.maybe_type → IsCompleteAt low inner.lower_level inner.lower_maybe_type → AreSteady inner
    → (x : Spot) (gs : Groups) (r : MaybeType) (ts m rest : List Word) → SpellsGroups Comma RParen gs ts m → SpellsMaybeType r m rest → FitsType (func x gs r) plain_type → type_depth (func x gs r) ≤ suc room → QuietType (func x gs r) rest
    → signature room inner (func_of room inner x) ts ≡ Ok (of_type (func x gs r) x (type_depth (func x gs r)), rest)
sig_complete room low inner below own lower steady x gs r ts m rest s t fits le q =
    func_signature room low inner (as_below room low inner below own lower steady) x gs r ts m rest s t fits.1 fits.2 fits.3 le (quiet_func x gs r rest q)
