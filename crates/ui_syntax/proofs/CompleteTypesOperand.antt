-- Types that no expression begins with are read, and those without a name.
use Rattle.std.proofs.Common.{◌≡◌, ℕ, suc, ◌≤◌, max, List, ◌∷◌, Option, Some, None, Ok, refl, ap, ◌∙◌, arith}
use Rattle.std.specs.Prelude.{nat_le}
use Rattle.ui_base.specs.declared.value.Spot.{Spot}
use Rattle.ui_scan.specs.declared.kind.TokenKind.{TokenKind}
use Rattle.ui_scan.specs.declared.kind.TokenKind.TheVariants.{LParen, RParen, LBracket, RBracket, Ellipsis, Mul, Map, Func, Struct, Interface}
use Rattle.ui_tree.specs.Tree.{TypeTree, parenthesized, pointer, slice, array, counted, mapping, func, struct, interface, Types, Groups, MaybeType, Tree}
use Rattle.ui_grammar.specs.Word.{Word, mark, Mark}
use Rattle.ui_grammar.specs.Spells.{Spells, SpellsType}
use Rattle.ui_grammar.specs.Fits.{plain, plain_type, type_depth, depth, Fits, FitsType}
use Rattle.ui_parse.specs.Reader.{Outcome, Reader, pure, first, marked, take_by}
use Rattle.ui_parse.proofs.Outcomes.{take_mark, take_other, expect_mark}
use Rattle.ui_syntax.specs.declared.site.Site.TheVariants as site
use Rattle.ui_syntax.specs.declared.site.TypeSite.{TypeSite}
use Rattle.ui_syntax.specs.declared.site.TypeSite.TheVariants as at
use Rattle.ui_syntax.specs.Cover.{Read}
use Rattle.ui_syntax.specs.Types.{Nested, of_type, a_type, a_lower_type, opened, array_type, counted_type, counted_or_array, bracket_type, map_type, func_type, struct_type, interface_type, deep_type, operand_type, pointer_type, parenthesized_type, marked_type, other_type}
use Rattle.ui_syntax.proofs.ByBudget.{QuietType}
use Rattle.ui_syntax.proofs.Quiet.{stop_mark, stop_bracket, stop_paren, quiet_type_stop, quiet_stop}
use Rattle.ui_syntax.proofs.Places.{type_positive}
use Rattle.ui_syntax.proofs.CompleteTypesBase.{not_length_first, Below, ReadAs, a_type_reads, a_lower_type_reads, length_reads}
use Rattle.ui_syntax.proofs.CompleteTypesLists.{pick_same, room_is}
use Rattle.ui_syntax.proofs.CompleteTypesFields.{struct_read, interface_read}
use Rattle.ui_syntax.proofs.CompleteTypesSignature.{func_read, quiet_func}

abbrev pub TypeOutcome : Type 0
TypeOutcome = Outcome (Option (Read TypeTree))

abbrev pub found : TypeTree → Spot → List Word → TypeOutcome
found t s rest = Ok (Some (of_type t s (type_depth t)), rest)

module _ (room : ℕ) (inner : Nested) where
  pub opened_is : (r : Reader (Read TypeTree)) (t : TypeTree) (s : Spot) (ts rest : List Word) → r ts ≡ Ok (of_type t s (type_depth t), rest) → opened room inner r ts ≡ found t s rest
  opened_is r t s ts rest e = rw e refl

  -- ---- the first mark

  at_func : (p : TypeSite) (other : Reader (Option (Read TypeTree))) (x : Spot) (ts : List Word) → operand_type room inner p other (mark Func x ∷ ts) ≡ opened room inner (func_type room inner x) ts
  unfolding operand_type
  at_func p other x ts = take_mark Func _ _ x ts

  at_struct : (p : TypeSite) (other : Reader (Option (Read TypeTree))) (x : Spot) (ts : List Word) → operand_type room inner p other (mark Struct x ∷ ts) ≡ opened room inner (struct_type room inner x) ts
  unfolding operand_type
  at_struct p other x ts = take_other (marked Func) _ _ (mark Struct x ∷ ts) refl ∙ take_mark Struct _ _ x ts

  at_interface : (p : TypeSite) (other : Reader (Option (Read TypeTree))) (x : Spot) (ts : List Word) → operand_type room inner p other (mark Interface x ∷ ts) ≡ opened room inner (interface_type room inner x) ts
  unfolding operand_type
  at_interface p other x ts = take_other (marked Func) _ _ (mark Interface x ∷ ts) refl ∙ take_other (marked Struct) _ _ (mark Interface x ∷ ts) refl ∙ take_mark Interface _ _ x ts

  pub at_deep : (p : TypeSite) (other : Reader (Option (Read TypeTree))) (ts : List Word) → first (marked Func) ts ≡ None → first (marked Struct) ts ≡ None → first (marked Interface) ts ≡ None → operand_type room inner p other ts ≡ deep_type room inner p other ts
  unfolding operand_type
  at_deep p other ts f s i = take_other (marked Func) _ _ ts f ∙ take_other (marked Struct) _ _ ts s ∙ take_other (marked Interface) _ _ ts i

  at_bracket : (p : TypeSite) (other : Reader (Option (Read TypeTree))) (x : Spot) (ts : List Word) → 1 ≤ room → operand_type room inner p other (mark LBracket x ∷ ts) ≡ opened room inner (bracket_type room inner p x) ts
  at_bracket p other x ts le = at_deep p other (mark LBracket x ∷ ts) refl refl refl ∙ rw (room_is 1 room le) (take_mark LBracket _ _ x ts)

  at_map : (p : TypeSite) (other : Reader (Option (Read TypeTree))) (x : Spot) (ts : List Word) → 1 ≤ room → operand_type room inner p other (mark Map x ∷ ts) ≡ opened room inner (map_type room inner x) ts
  at_map p other x ts le = at_deep p other (mark Map x ∷ ts) refl refl refl ∙ rw (room_is 1 room le) (take_other (marked LBracket) _ _ (mark Map x ∷ ts) refl ∙ take_mark Map _ _ x ts)

  pub at_other : (p : TypeSite) (other : Reader (Option (Read TypeTree))) (ts : List Word) → first (marked Func) ts ≡ None → first (marked Struct) ts ≡ None → first (marked Interface) ts ≡ None → first (marked LBracket) ts ≡ None → first (marked Map) ts ≡ None
      → operand_type room inner p other ts ≡ other ts
  at_other p other ts f s i b m =
      at_deep p other ts f s i ∙ pick_same (nat_le 1 room) (take_by (marked LBracket) _ (take_by (marked Map) _ other)) other ts (other ts) (take_other (marked LBracket) _ _ ts b ∙ take_other (marked Map) _ other ts m) refl

  -- pointers and parentheses
  at_mark : (k : TokenKind) (x : Spot) (ts : List Word) → first (marked Func) (mark k x ∷ ts) ≡ None → first (marked Struct) (mark k x ∷ ts) ≡ None → first (marked Interface) (mark k x ∷ ts) ≡ None → first (marked LBracket) (mark k x ∷ ts) ≡ None → first (marked Map) (mark k x ∷ ts) ≡ None → 1 ≤ room
      → other_type room inner (mark k x ∷ ts) ≡ take_by (marked Mul) (λ s. opened room inner (pointer_type room inner s)) (take_by (marked LParen) (λ s. opened room inner (parenthesized_type room inner s)) (pure None)) (mark k x ∷ ts)
  at_mark k x ts f s i b m le = at_other at.Plain (marked_type room inner) (mark k x ∷ ts) f s i b m ∙ rw (room_is 1 room le) refl

module _ (room low : ℕ) (inner : Nested) (has : Below room low inner) where
  -- ---- behind `[`

  bracket_slice : (p : TypeSite) (x : Spot) (t : TypeTree) (a b rest : List Word) → Mark RBracket a b → SpellsType t b rest → FitsType t plain_type → type_depth t ≤ room → QuietType t rest → bracket_type room inner p x a ≡ Ok (of_type (slice x t) x (suc (type_depth t)), rest)
  unfolding bracket_type
  bracket_slice p x t a b rest bracket s fits le q =
      ap (bracket_type room inner p x) bracket.is ∙ take_mark RBracket _ _ bracket.spot b ∙ rw (a_type_reads room low inner has t b rest s fits le q).is refl

  array_is : (x : Spot) (e : Tree) (t : TypeTree) (a b c rest : List Word) → Spells e a b → Mark RBracket b c → SpellsType t c rest → Fits e plain → FitsType t plain_type → max (depth e) (type_depth t) ≤ room → QuietType t rest
      → array_type room inner x a ≡ Ok (of_type (array x e t) x (suc (max (depth e) (type_depth t))), rest)
  array_is x e t a b c rest length bracket s fits_length fits le q =
      let length_is = length_reads room low inner has e a b length fits_length (omega arith) (quiet_stop site.Plain 1 b (stop_mark RBracket b c stop_bracket bracket)) in
      let type_is = a_type_reads room low inner has t c rest s fits (omega arith) q in
      rw length_is.is (rw (bracket.is, expect_mark) (rw type_is.is refl))

  by_site : (p : TypeSite) (x : Spot) (e : Tree) (a : List Word) (y : Outcome (Read TypeTree)) → first (marked Ellipsis) a ≡ None → array_type room inner x a ≡ y → counted_or_array room inner p x a ≡ y
  by_site at.Plain x e a y no_dots is = is
  by_site at.Element x e a y no_dots is = is
  by_site at.Operand x e a y no_dots is = take_other (marked Ellipsis) _ _ a no_dots ∙ is
  by_site at.Argument x e a y no_dots is = pick_same (nat_le 2 room) (take_by (marked Ellipsis) _ (array_type room inner x)) (array_type room inner x) a y (take_other (marked Ellipsis) _ _ a no_dots ∙ is) is

  bracket_array : (p : TypeSite) (x : Spot) (e : Tree) (t : TypeTree) (a b c rest : List Word) → Spells e a b → Mark RBracket b c → SpellsType t c rest → Fits e plain → FitsType t plain_type → max (depth e) (type_depth t) ≤ room → QuietType t rest
      → bracket_type room inner p x a ≡ Ok (of_type (array x e t) x (suc (max (depth e) (type_depth t))), rest)
  unfolding bracket_type
  bracket_array p x e t a b c rest length bracket s fits_length fits le q =
      take_other (marked RBracket) _ _ a (not_length_first RBracket (λ _. refl) e a b length fits_length) ∙ by_site p x e a _ (not_length_first Ellipsis (λ _. refl) e a b length fits_length) (array_is x e t a b c rest length bracket s fits_length fits le q)

  counted_is : (type : Reader (Read TypeTree)) (x : Spot) (t : TypeTree) (b c rest : List Word) → Mark RBracket b c → ReadAs (type c) t (type_depth t) rest → counted_type room inner type x b ≡ Ok (of_type (counted x t) x (suc (type_depth t)), rest)
  counted_is type x t b c rest bracket type_is = rw (bracket.is, expect_mark) (rw type_is.is refl)

  bracket_counted : (p : TypeSite) (x : Spot) (a b : List Word) → Mark Ellipsis a b → bracket_type room inner p x a ≡ counted_or_array room inner p x a
  unfolding bracket_type
  bracket_counted p x a b m = take_other (marked RBracket) _ _ a (ap (first (marked RBracket)) m.is)

  -- ---- types that begin so

  pub slice_read : (p : TypeSite) (other : Reader (Option (Read TypeTree))) (x : Spot) (t : TypeTree) (ts rest : List Word) → SpellsType (slice x t) ts rest → FitsType t plain_type → suc (type_depth t) ≤ suc room → QuietType t rest
      → operand_type room inner p other ts ≡ found (slice x t) x rest
  slice_read p other x t ts rest s fits le q =
      ap (operand_type room inner p other) s.2 ∙ at_bracket room inner p other x s.0 (omega (arith, type_positive t fits))
      ∙ opened_is room inner (bracket_type room inner p x) (slice x t) x s.0 rest (bracket_slice p x t s.0 s.1 rest s.3 s.4 fits (omega arith) q)

  pub array_read : (p : TypeSite) (other : Reader (Option (Read TypeTree))) (x : Spot) (e : Tree) (t : TypeTree) (ts rest : List Word) → SpellsType (array x e t) ts rest → Fits e plain → FitsType t plain_type → suc (max (depth e) (type_depth t)) ≤ suc room → QuietType t rest
      → operand_type room inner p other ts ≡ found (array x e t) x rest
  array_read p other x e t ts rest s fits_length fits le q =
      ap (operand_type room inner p other) s.3 ∙ at_bracket room inner p other x s.0 (omega (arith, type_positive t fits))
      ∙ opened_is room inner (bracket_type room inner p x) (array x e t) x s.0 rest (bracket_array p x e t s.0 s.1 s.2 rest s.4 s.5 s.6 fits_length fits (omega arith) q)

  pub counted_read : (other : Reader (Option (Read TypeTree))) (x : Spot) (t : TypeTree) (ts rest : List Word) → SpellsType (counted x t) ts rest → FitsType t plain_type → suc (type_depth t) ≤ suc room → QuietType t rest
      → operand_type room inner at.Operand other ts ≡ found (counted x t) x rest
  counted_read other x t ts rest s fits le q =
      ap (operand_type room inner at.Operand other) s.3 ∙ at_bracket room inner at.Operand other x s.0 (omega (arith, type_positive t fits))
      ∙ opened_is room inner (bracket_type room inner at.Operand x) (counted x t) x s.0 rest
      (bracket_counted at.Operand x s.0 s.1 s.4 ∙ ap (counted_or_array room inner at.Operand x) s.4.is ∙ take_mark Ellipsis _ _ s.4.spot s.1 ∙ counted_is (a_type room inner) x t s.1 s.2 rest s.5 (a_type_reads room low inner has t s.2 rest s.6 fits (omega arith) q))

  pub counted_argument_read : (other : Reader (Option (Read TypeTree))) (x : Spot) (t : TypeTree) (ts rest : List Word) → SpellsType (counted x t) ts rest → FitsType t plain_type → suc (suc (type_depth t)) ≤ suc room → QuietType t rest
      → operand_type room inner at.Argument other ts ≡ found (counted x t) x rest
  counted_argument_read other x t ts rest s fits le q =
      let some_depth = type_positive t fits in
      let e = has.below (omega arith) in
      ap (operand_type room inner at.Argument other) s.3 ∙ at_bracket room inner at.Argument other x s.0 (omega arith)
      ∙ opened_is room inner (bracket_type room inner at.Argument x) (counted x t) x s.0 rest
      (bracket_counted at.Argument x s.0 s.1 s.4 ∙ ap (counted_or_array room inner at.Argument x) s.4.is ∙ rw (room_is 2 room (omega arith)) (take_mark Ellipsis _ _ s.4.spot s.1 ∙ counted_is (a_lower_type room inner) x t s.1 s.2 rest s.5 (a_lower_type_reads room low inner has t s.2 rest s.6 fits (omega (arith, e)) q)))

  pub mapping_read : (p : TypeSite) (other : Reader (Option (Read TypeTree))) (x : Spot) (k t : TypeTree) (ts rest : List Word) → SpellsType (mapping x k t) ts rest → FitsType k plain_type → FitsType t plain_type → suc (max (type_depth k) (type_depth t)) ≤ suc room → QuietType t rest
      → operand_type room inner p other ts ≡ found (mapping x k t) x rest
  mapping_read p other x k t ts rest s fits_key fits le q =
      let key_is = a_type_reads room low inner has k s.1 s.2 s.6 fits_key (omega arith) (quiet_type_stop k s.2 (stop_mark RBracket s.2 s.3 stop_bracket s.7)) in
      let type_is = a_type_reads room low inner has t s.3 rest s.8 fits (omega arith) q in
      ap (operand_type room inner p other) s.4 ∙ at_map room inner p other x s.0 (omega (arith, type_positive t fits))
      ∙ opened_is room inner (map_type room inner x) (mapping x k t) x s.0 rest (ap (map_type room inner x) s.5.is ∙ rw (expect_mark, key_is.is) (rw (s.7.is, expect_mark) (rw type_is.is refl)))

  pub func_operand_read : (p : TypeSite) (other : Reader (Option (Read TypeTree))) (x : Spot) (gs : Groups) (r : MaybeType) (ts rest : List Word) → SpellsType (func x gs r) ts rest → FitsType (func x gs r) plain_type → type_depth (func x gs r) ≤ suc room → QuietType (func x gs r) rest
      → operand_type room inner p other ts ≡ found (func x gs r) x rest
  func_operand_read p other x gs r ts rest s fits le q =
      ap (operand_type room inner p other) s.3 ∙ at_func room inner p other x s.0
      ∙ opened_is room inner (func_type room inner x) (func x gs r) x s.0 rest (func_read room low inner has x gs r s.0 s.1 s.2 rest s.4 s.5 s.6 fits.1 fits.2 fits.3 le (quiet_func x gs r rest q))

  pub struct_operand_read : (p : TypeSite) (other : Reader (Option (Read TypeTree))) (x : Spot) (gs : Groups) (ts rest : List Word) → SpellsType (struct x gs) ts rest → FitsType (struct x gs) plain_type → type_depth (struct x gs) ≤ suc room
      → operand_type room inner p other ts ≡ found (struct x gs) x rest
  struct_operand_read p other x gs ts rest s fits le =
      ap (operand_type room inner p other) s.2 ∙ at_struct room inner p other x s.0
      ∙ opened_is room inner (struct_type room inner x) (struct x gs) x s.0 rest (struct_read room low inner has x gs s.0 s.1 rest s.3 s.4 fits.1 fits.2 (omega arith))

  pub interface_operand_read : (p : TypeSite) (other : Reader (Option (Read TypeTree))) (x : Spot) (us : Types) (ts rest : List Word) → SpellsType (interface x us) ts rest → FitsType (interface x us) plain_type → type_depth (interface x us) ≤ suc room
      → operand_type room inner p other ts ≡ found (interface x us) x rest
  interface_operand_read p other x us ts rest s fits le =
      ap (operand_type room inner p other) s.2 ∙ at_interface room inner p other x s.0
      ∙ opened_is room inner (interface_type room inner x) (interface x us) x s.0 rest (interface_read room low inner has x us s.0 s.1 rest s.3 s.4 fits.1 (omega arith))

  -- ---- pointers and parentheses

  pub pointer_read : (x : Spot) (t : TypeTree) (ts rest : List Word) → SpellsType (pointer x t) ts rest → FitsType t plain_type → suc (type_depth t) ≤ suc room → QuietType t rest → other_type room inner ts ≡ found (pointer x t) x rest
  pointer_read x t ts rest s fits le q =
      let type_is = a_type_reads room low inner has t s.0 rest s.2 fits (omega arith) q in
      ap (other_type room inner) s.1 ∙ at_mark room inner Mul x s.0 refl refl refl refl refl (omega (arith, type_positive t fits)) ∙ take_mark Mul _ _ x s.0 ∙ opened_is room inner (pointer_type room inner x) (pointer x t) x s.0 rest (rw type_is.is refl)

  pub parenthesized_read : (x : Spot) (t : TypeTree) (ts rest : List Word) → SpellsType (parenthesized x t) ts rest → FitsType t plain_type → suc (type_depth t) ≤ suc room → other_type room inner ts ≡ found (parenthesized x t) x rest
  parenthesized_read x t ts rest s fits le =
      let type_is = a_type_reads room low inner has t s.0 s.1 s.3 fits (omega arith) (quiet_type_stop t s.1 (stop_mark RParen s.1 rest stop_paren s.4)) in
      ap (other_type room inner) s.2 ∙ at_mark room inner LParen x s.0 refl refl refl refl refl (omega (arith, type_positive t fits))
      ∙ take_other (marked Mul) _ _ (mark LParen x ∷ s.0) refl ∙ take_mark LParen _ _ x s.0 ∙ opened_is room inner (parenthesized_type room inner x) (parenthesized x t) x s.0 rest (rw type_is.is (rw (s.4.is, expect_mark) refl))
