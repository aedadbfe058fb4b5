-- Types are read where they stand alone, and where an operand begins with them.
use Rattle.std.proofs.Common.{◌≡◌, ◌⊎◌, inl, inr, ℕ, suc, ◌≤◌, Bool, true, false, List, ◌∷◌, Option, None, Ok, refl, sym, ap, subst, ◌∙◌}
use Rattle.std.specs.Prelude.{nat_le}
use Rattle.ui_base.specs.declared.value.Spot.{Spot}
use Rattle.ui_scan.specs.declared.kind.TokenKind.TheVariants.{LParen, Mul}
use Rattle.ui_tree.specs.declared.part.Placed.{Placed}
use Rattle.ui_tree.specs.Tree.{TypeTree, named, parenthesized, pointer, slice, array, counted, mapping, func, listed, struct, interface, method, union, tilde, Args}
use Rattle.ui_grammar.specs.Word.{Word, ident, spot_at, Begins}
use Rattle.ui_grammar.specs.Both.{ends_open}
use Rattle.ui_grammar.specs.Spells.{SpellsType}
use Rattle.ui_grammar.specs.Fits.{plain_type, of_literal, is_named, type_depth, FitsType}
use Rattle.ui_parse.specs.Reader.{Reader, first, marked, named as a_name, take_by, pure}
use Rattle.ui_parse.proofs.Outcomes.{take_other, take_ident}
use Rattle.ui_syntax.specs.declared.site.TypeSite.{TypeSite}
use Rattle.ui_syntax.specs.declared.site.TypeSite.TheVariants as at
use Rattle.ui_syntax.specs.Cover.{Read, is_counted}
use Rattle.ui_syntax.specs.Types.{Nested, a_type, named_type, operand_type, other_type, marked_type, plain_type as plain_reader}
use Rattle.ui_syntax.proofs.ByBudget.{QuietType, NoType, IsOperandType, TypeReadsTo}
use Rattle.ui_syntax.proofs.SteadyTypes.{steady_a_type}
use Rattle.ui_syntax.proofs.CompleteTypesBase.{Below, a_type_reads}
use Rattle.ui_syntax.proofs.CompleteTypesLists.{pick_same, named_read}
use Rattle.ui_syntax.proofs.CompleteTypesOperand.{TypeOutcome, found, opened_is, at_other, slice_read, array_read, counted_read, counted_argument_read, mapping_read, func_operand_read, struct_operand_read, interface_operand_read, pointer_read, parenthesized_read}

pub begins_with : (w : Word) (ts rest : List Word) → ts ≡ w ∷ rest → Begins (spot_at w) ts
begins_with w ts rest e = subst (Begins (spot_at w)) (sym e) refl

pub reads_to : (o : TypeOutcome) (t : TypeTree) (s : Spot) (ts rest : List Word) → o ≡ found t s rest → Begins s ts → TypeReadsTo o t ts rest
reads_to o t s ts rest e b = record { read = record { tree = t; spot = s; depth = type_depth t }; is = e; tree = refl; depth = refl; begins = b }

pub reads_at : (o o' : TypeOutcome) (t : TypeTree) (ts rest : List Word) → o ≡ o' → TypeReadsTo o' t ts rest → TypeReadsTo o t ts rest
reads_at o o' t ts rest e x = record { read = x.read; is = e ∙ x.is; tree = x.tree; depth = x.depth; begins = x.begins }

-- a part with which a type ends
quiet_part : (t u : TypeTree) (ts : List Word) → ends_open u ≡ ends_open t → QuietType t ts → QuietType u ts
quiet_part t u ts e q = record { no_dot = q.no_dot; no_bracket = q.no_bracket; no_result = λ is. q.no_result (sym e ∙ is) }

plain_of : (t : TypeTree) → is_counted t ≡ false → (FitsType t plain_type ⊎ ((is_counted t ≡ true) × FitsType t of_literal)) → FitsType t plain_type
plain_of t e (inl f) = f
plain_of t e (inr f) = let g = f.0 in absurd cc

-- where no type begins
module _ (room : ℕ) (inner : Nested) where
  no_other_type : (ts : List Word) → NoType ts → other_type room inner ts ≡ Ok (None, ts)
  no_other_type ts q =
      at_other room inner at.Plain (marked_type room inner) ts q.no_func q.no_struct q.no_interface q.no_bracket q.no_map
      ∙ pick_same (nat_le 1 room) (take_by (marked Mul) _ (take_by (marked LParen) _ (pure None))) (pure None) ts (Ok (None, ts)) (take_other (marked Mul) _ _ ts q.no_pointer ∙ take_other (marked LParen) _ _ ts q.no_paren) refl

  pub no_plain_type : (ts : List Word) → NoType ts → plain_reader room inner ts ≡ Ok (None, ts)
  unfolding plain_reader
  no_plain_type ts q = take_other a_name _ _ ts q.no_name ∙ no_other_type ts q

module _ (room low : ℕ) (inner : Nested) (has : Below room low inner) where
  -- ---- types without a name

  abbrev ReadsPlain : TypeTree → List Word → List Word → Type 0
  ReadsPlain t ts rest = TypeReadsTo (plain_reader room inner ts) t ts rest

  abbrev pub ReadsOther : TypeTree → List Word → List Word → Type 0
  ReadsOther t ts rest = (first a_name ts ≡ None) × TypeReadsTo (other_type room inner ts) t ts rest

  unnamed : (t : TypeTree) (w : Word) (ts a rest : List Word) → ts ≡ w ∷ a → a_name w ≡ None → other_type room inner ts ≡ found t (spot_at w) rest → ReadsOther t ts rest
  unnamed t w ts a rest e no_name is = (ap (first a_name) e ∙ no_name, reads_to _ t (spot_at w) ts rest is (begins_with w ts a e))

  pub other_read : (t : TypeTree) (ts rest : List Word) → is_named t ≡ false → SpellsType t ts rest → FitsType t plain_type → type_depth t ≤ suc room → QuietType t rest → ReadsOther t ts rest
  other_read (named n m vs) ts rest e s fits le q = absurd cc
  other_read (parenthesized x t) ts rest e s fits le q = unnamed (parenthesized x t) _ ts s.0 rest s.2 refl (parenthesized_read room low inner has x t ts rest s fits.1 le)
  other_read (pointer x t) ts rest e s fits le q = unnamed (pointer x t) _ ts s.0 rest s.1 refl (pointer_read room low inner has x t ts rest s fits.1 le (quiet_part (pointer x t) t rest refl q))
  other_read (slice x t) ts rest e s fits le q = unnamed (slice x t) _ ts s.0 rest s.2 refl (slice_read room low inner has at.Plain _ x t ts rest s fits.1 le (quiet_part (slice x t) t rest refl q))
  other_read (array x n t) ts rest e s fits le q = unnamed (array x n t) _ ts s.0 rest s.3 refl (array_read room low inner has at.Plain _ x n t ts rest s fits.1 fits.2 le (quiet_part (array x n t) t rest refl q))
  other_read (counted x t) ts rest e s fits le q = let f = fits.0 in absurd cc
  other_read (mapping x k t) ts rest e s fits le q = unnamed (mapping x k t) _ ts s.0 rest s.4 refl (mapping_read room low inner has at.Plain _ x k t ts rest s fits.1 fits.2 le (quiet_part (mapping x k t) t rest refl q))
  other_read (func x gs r) ts rest e s fits le q = unnamed (func x gs r) _ ts s.0 rest s.3 refl (func_operand_read room low inner has at.Plain _ x gs r ts rest s fits le q)
  other_read (listed x gs) ts rest e s fits le q = let f = fits.0 in absurd cc
  other_read (struct x gs) ts rest e s fits le q = unnamed (struct x gs) _ ts s.0 rest s.2 refl (struct_operand_read room low inner has at.Plain _ x gs ts rest s fits le)
  other_read (interface x us) ts rest e s fits le q = unnamed (interface x us) _ ts s.0 rest s.2 refl (interface_operand_read room low inner has at.Plain _ x us ts rest s fits le)
  other_read (method n gs r) ts rest e s fits le q = let f = fits.0 in absurd cc
  other_read (union x us) ts rest e s fits le q = let f = fits.0 in absurd cc
  other_read (tilde x t) ts rest e s fits le q = let f = fits.0 in absurd cc

  -- ---- all types

  -- behind the name
  pub name_read : (p : Placed) (m : Option Placed) (vs : Args) (ts rest : List Word) → (s : SpellsType (named p m vs) ts rest) → FitsType (named p m vs) plain_type → type_depth (named p m vs) ≤ suc room → QuietType (named p m vs) rest
      → named_type (suc room) (a_type room inner) p s.0 ≡ Ok (record { tree = named p m vs; spot = p.spot; depth = type_depth (named p m vs) }, rest)
  name_read p m vs ts rest s fits le q = named_read room (a_type room inner) (steady_a_type room inner has.steady) (a_type_reads room low inner has) p m vs s.0 s.1 rest s.3 s.4 fits.1 le q.no_dot q.no_bracket

  by_name : (n : Bool) (t : TypeTree) (ts rest : List Word) → is_named t ≡ n → SpellsType t ts rest → FitsType t plain_type → type_depth t ≤ suc room → QuietType t rest → ReadsPlain t ts rest
  unfolding plain_reader
  by_name false t ts rest e s fits le q = let x = other_read t ts rest e s fits le q in reads_at _ _ t ts rest (take_other a_name _ _ ts x.0) x.1
  by_name true (named p m vs) ts rest e s fits le q =
      reads_to _ (named p m vs) p.spot ts rest
      (ap (plain_reader room inner) s.2 ∙ take_ident _ _ p s.0 ∙ opened_is room inner (named_type (suc room) (a_type room inner) p) (named p m vs) p.spot s.0 rest (name_read p m vs ts rest s fits le q)) (begins_with (ident p) ts s.0 s.2)
  by_name true _ ts rest e s fits le q = absurd cc

  pub plain_read : (t : TypeTree) (ts rest : List Word) → SpellsType t ts rest → FitsType t plain_type → type_depth t ≤ suc room → QuietType t rest → ReadsPlain t ts rest
  plain_read t ts rest s fits le q = by_name (is_named t) t ts rest refl s fits le q

  -- ---- where an operand begins

  abbrev ReadsAt : TypeSite → Reader (Option (Read TypeTree)) → TypeTree → List Word → List Word → Type 0
  ReadsAt p other t ts rest = TypeReadsTo (operand_type room inner p other ts) t ts rest

  pub operand_read : (p : TypeSite) (other : Reader (Option (Read TypeTree))) (t : TypeTree) (ts rest : List Word) → SpellsType t ts rest → IsOperandType t → type_depth t ≤ suc room → QuietType t rest
      → (is_counted t ≡ true → FitsType t of_literal → ReadsAt p other t ts rest) → ReadsAt p other t ts rest
  operand_read p other (named n m vs) ts rest s is le q at_counted = let f = is.no_expression in absurd cc
  operand_read p other (parenthesized x t) ts rest s is le q at_counted = let f = is.no_parentheses in absurd cc
  operand_read p other (pointer x t) ts rest s is le q at_counted = let f = is.no_pointer in absurd cc
  operand_read p other (slice x t) ts rest s is le q at_counted =
      reads_to _ (slice x t) x ts rest (slice_read room low inner has p other x t ts rest s (plain_of (slice x t) refl is.fits).1 le (quiet_part (slice x t) t rest refl q)) (begins_with _ ts s.0 s.2)
  operand_read p other (array x n t) ts rest s is le q at_counted =
      let fits = plain_of (array x n t) refl is.fits in
      reads_to _ (array x n t) x ts rest (array_read room low inner has p other x n t ts rest s fits.1 fits.2 le (quiet_part (array x n t) t rest refl q)) (begins_with _ ts s.0 s.3)
  operand_read p other (counted x t) ts rest s is le q at_counted = at_counted refl (literal_of is.fits)
    where
      literal_of : (FitsType (counted x t) plain_type ⊎ ((is_counted (counted x t) ≡ true) × FitsType (counted x t) of_literal)) → FitsType (counted x t) of_literal
      literal_of (inl f) = let g = f.0 in absurd cc
      literal_of (inr f) = f.1
  operand_read p other (mapping x k t) ts rest s is le q at_counted =
      let fits = plain_of (mapping x k t) refl is.fits in
      reads_to _ (mapping x k t) x ts rest (mapping_read room low inner has p other x k t ts rest s fits.1 fits.2 le (quiet_part (mapping x k t) t rest refl q)) (begins_with _ ts s.0 s.4)
  operand_read p other (func x gs r) ts rest s is le q at_counted = reads_to _ (func x gs r) x ts rest (func_operand_read room low inner has p other x gs r ts rest s (plain_of (func x gs r) refl is.fits) le q) (begins_with _ ts s.0 s.3)
  operand_read p other (listed x gs) ts rest s is le q at_counted = let f = (plain_of (listed x gs) refl is.fits).0 in absurd cc
  operand_read p other (struct x gs) ts rest s is le q at_counted = reads_to _ (struct x gs) x ts rest (struct_operand_read room low inner has p other x gs ts rest s (plain_of (struct x gs) refl is.fits) le) (begins_with _ ts s.0 s.2)
  operand_read p other (interface x us) ts rest s is le q at_counted = reads_to _ (interface x us) x ts rest (interface_operand_read room low inner has p other x us ts rest s (plain_of (interface x us) refl is.fits) le) (begins_with _ ts s.0 s.2)
  operand_read p other (method n gs r) ts rest s is le q at_counted = let f = (plain_of (method n gs r) refl is.fits).0 in absurd cc
  operand_read p other (union x us) ts rest s is le q at_counted = let f = (plain_of (union x us) refl is.fits).0 in absurd cc
  operand_read p other (tilde x t) ts rest s is le q at_counted = let f = (plain_of (tilde x t) refl is.fits).0 in absurd cc

  counted_at : (other : Reader (Option (Read TypeTree))) (t : TypeTree) (ts rest : List Word) → SpellsType t ts rest → type_depth t ≤ suc room → QuietType t rest → is_counted t ≡ true → FitsType t of_literal → ReadsAt at.Operand other t ts rest
  counted_at other (counted x t) ts rest s le q e fits = reads_to _ (counted x t) x ts rest (counted_read room low inner has other x t ts rest s fits.1 le (quiet_part (counted x t) t rest refl q)) (begins_with _ ts s.0 s.3)
  counted_at other _ ts rest s le q e fits = absurd cc

  counted_argument : (other : Reader (Option (Read TypeTree))) (t : TypeTree) (ts rest : List Word) → SpellsType t ts rest → suc (type_depth t) ≤ suc room → QuietType t rest → is_counted t ≡ true → FitsType t of_literal → ReadsAt at.Argument other t ts rest
  counted_argument other (counted x t) ts rest s le q e fits = reads_to _ (counted x t) x ts rest (counted_argument_read room low inner has other x t ts rest s fits.1 le (quiet_part (counted x t) t rest refl q)) (begins_with _ ts s.0 s.3)
  counted_argument other _ ts rest s le q e fits = absurd cc

  pub at_operand_read : (other : Reader (Option (Read TypeTree))) (t : TypeTree) (ts rest : List Word) → SpellsType t ts rest → IsOperandType t → type_depth t ≤ suc room → QuietType t rest → ReadsAt at.Operand other t ts rest
  at_operand_read other t ts rest s is le q = operand_read at.Operand other t ts rest s is le q (λ e f. counted_at other t ts rest s le q e f)

  pub at_argument_read : (other : Reader (Option (Read TypeTree))) (t : TypeTree) (ts rest : List Word) → SpellsType t ts rest → IsOperandType t → type_depth t ≤ suc room → (is_counted t ≡ true → suc (type_depth t) ≤ suc room) → QuietType t rest → ReadsAt at.Argument other t ts rest
  at_argument_read other t ts rest s is le deeper q = operand_read at.Argument other t ts rest s is le q (λ e f. counted_argument other t ts rest s (deeper e) q e f)
