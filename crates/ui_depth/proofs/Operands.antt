-- Words with which no operand begins are refused.
use Rattle.std.proofs.Common.{◌≡◌, ℕ, zero, suc, Bool, true, false, cond, List, ◌∷◌, Option, None, Ok, Err, refl, ap, ◌∙◌}
use Rattle.std.specs.Prelude.{nat_le}
use Rattle.ui_base.specs.declared.value.Spot.{Spot}
use Rattle.ui_scan.specs.declared.kind.TokenKind.TheVariants.{LParen, LBracket, Ellipsis, Map, Func, Struct, Interface}
use Rattle.ui_tree.specs.Tree.{TypeTree, Tree}
use Rattle.ui_grammar.specs.Word.{Word, mark}
use Rattle.ui_parse.specs.Reader.{Outcome, Reader, and_then, pure, take_by, marked, named as a_name}
use Rattle.ui_parse.proofs.Outcomes.{take_other}
use Rattle.ui_syntax.specs.declared.site.Site.{Site}
use Rattle.ui_syntax.specs.declared.site.Site.TheVariants.{Header, Plain, Wrapped, Argument}
use Rattle.ui_syntax.specs.declared.site.TypeSite.{TypeSite}
use Rattle.ui_syntax.specs.declared.site.TypeSite.TheVariants as at
use Rattle.ui_syntax.specs.Cover.{Read}
use Rattle.ui_syntax.specs.Types.{Nested, operand_type, maybe_type}
use Rattle.ui_syntax.specs.Exprs.{a_literal, a_prefix, maybe_behind, type_operand, operand, primary, suffixes, unary_expr, operations, level}
use Rattle.ui_syntax.specs.Read.{readers}

-- no type of an operand begins with the word
pub record NoOperand (w : Word) : Type 0 where
  pub no_func : marked Func w ≡ None
  pub no_struct : marked Struct w ≡ None
  pub no_interface : marked Interface w ≡ None
  pub no_bracket : marked LBracket w ≡ None
  pub no_map : marked Map w ≡ None

either_way : {A : Type 0} (b : Bool) (p q : Reader A) (ws : List Word) → p ws ≡ q ws → cond b p q ws ≡ q ws
either_way true p q ws e = e
either_way false p q ws e = refl

other_operand : (room : ℕ) (inner : Nested) (p : TypeSite) (other : Reader (Option (Read TypeTree))) (w : Word) (r : List Word) → NoOperand w → operand_type room inner p other (w ∷ r) ≡ other (w ∷ r)
unfolding operand_type
other_operand room inner p other w r has_no = take_other (marked Func) _ _ (w ∷ r) has_no.no_func ∙ take_other (marked Struct) _ _ (w ∷ r) has_no.no_struct ∙ take_other (marked Interface) _ _ (w ∷ r) has_no.no_interface
    ∙ either_way (nat_le 1 room) _ other (w ∷ r) (take_other (marked LBracket) _ _ (w ∷ r) has_no.no_bracket ∙ take_other (marked Map) _ other (w ∷ r) has_no.no_map)

operand_none : (d : ℕ) (w : Word) (r : List Word) → NoOperand w → (readers d).maybe_type at.Operand (w ∷ r) ≡ Ok (None, w ∷ r)
unfolding readers maybe_type
operand_none zero w r has_no = refl
operand_none (suc d) w r has_no = other_operand d (readers d) at.Operand (pure None) w r has_no

argument_none : (room : ℕ) (inner : Nested) (w : Word) (r : List Word) → NoOperand w → maybe_type room inner at.Argument (w ∷ r) ≡ Ok (None, w ∷ r)
unfolding maybe_type
argument_none room inner w r has_no = other_operand room inner at.Argument (pure None) w r has_no

refused_by : (room : ℕ) (inner : Nested) (site : Site) (ws : List Word) (o : Outcome (Option (Read TypeTree))) → o ≡ Ok (None, ws) → and_then o (maybe_behind room inner site) ≡ Err ws
refused_by room inner site ws o e = ap (λ (x : Outcome (Option (Read TypeTree))). and_then x (maybe_behind room inner site)) e

pub type_operand_refused : (d : ℕ) (site : Site) (w : Word) (r : List Word) → NoOperand w → type_operand d (readers d) site (w ∷ r) ≡ Err (w ∷ r)
type_operand_refused d Argument w r has_no = refused_by d (readers d) Argument (w ∷ r) _ (argument_none d (readers d) w r has_no)
type_operand_refused d Header w r has_no = refused_by d (readers d) Header (w ∷ r) _ (operand_none d w r has_no)
type_operand_refused d Plain w r has_no = refused_by d (readers d) Plain (w ∷ r) _ (operand_none d w r has_no)
type_operand_refused d Wrapped w r has_no = refused_by d (readers d) Wrapped (w ∷ r) _ (operand_none d w r has_no)

primary_by : (room : ℕ) (inner : Nested) (site : Site) (ws : List Word) (o : Outcome (Read Tree)) → o ≡ Err ws → and_then o (suffixes room inner site (suc (suc room))) ≡ Err ws
primary_by room inner site ws o e = ap (λ (x : Outcome (Read Tree)). and_then x (suffixes room inner site (suc (suc room)))) e

paren_refused : {A : Type 0} (b : Bool) (on : Spot → Reader A) (other : Reader A) (w : Word) (r : List Word) → (b ≡ true → marked LParen w ≡ None) → cond b (take_by (marked LParen) on other) other (w ∷ r) ≡ other (w ∷ r)
paren_refused true on other w r none = take_other (marked LParen) on other (w ∷ r) (none refl)
paren_refused false on other w r none = refl

-- a word that begins no operand, or a parenthesis where there is no room
pub primary_refused : (d : ℕ) (site : Site) (w : Word) (r : List Word) → a_literal w ≡ None → a_name w ≡ None → NoOperand w → (nat_le 1 d ≡ true → marked LParen w ≡ None) → primary d (readers d) site (w ∷ r) ≡ Err (w ∷ r)
unfolding primary operand
primary_refused d site w r no_literal no_name has_no none = primary_by d (readers d) site (w ∷ r) _
    (take_other a_literal _ _ (w ∷ r) no_literal ∙ take_other a_name _ _ (w ∷ r) no_name ∙ paren_refused (nat_le 1 d) _ (type_operand d (readers d) site) w r none ∙ type_operand_refused d site w r has_no)

level_by : (room : ℕ) (inner : Nested) (site : Site) (least : ℕ) (ws : List Word) (o : Outcome (Read Tree)) → o ≡ Err ws → and_then o (operations room inner site least (suc (suc room))) ≡ Err ws
level_by room inner site least ws o e = ap (λ (x : Outcome (Read Tree)). and_then x (operations room inner site least (suc (suc room)))) e

-- no expression begins with `...`
pub ellipsis_refused : (d : ℕ) (s : Spot) (r : List Word) → (readers d).level Plain 1 (mark Ellipsis s ∷ r) ≡ Err (mark Ellipsis s ∷ r)
unfolding readers level unary_expr
ellipsis_refused zero s r = refl
ellipsis_refused (suc d) s r = level_by d (readers d) Plain 1 (mark Ellipsis s ∷ r) _
    (either_way (nat_le 1 d) _ (primary d (readers d) Plain) (mark Ellipsis s ∷ r) (take_other a_prefix _ _ (mark Ellipsis s ∷ r) refl)
    ∙ primary_refused d Plain (mark Ellipsis s) r refl refl (record { no_func = refl; no_struct = refl; no_interface = refl; no_bracket = refl; no_map = refl }) (λ _. refl))
