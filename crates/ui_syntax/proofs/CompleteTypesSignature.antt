-- Signatures are read.
use Rattle.std.proofs.Common.{◌≡◌, ℕ, suc, ◌≤◌, max, true, ◌||◌, List, None, Ok, refl, ap, ◌∙◌, arith}
use Rattle.ui_base.specs.declared.value.Spot.{Spot}
use Rattle.ui_scan.specs.declared.kind.TokenKind.TheVariants.{LParen, RParen, LBracket, Comma, Period}
use Rattle.ui_tree.specs.declared.part.Placed.{Placed}
use Rattle.ui_tree.specs.declared.part.Group.{Group}
use Rattle.ui_tree.specs.Tree.{TypeTree, named, parenthesized, pointer, slice, array, counted, mapping, func, listed, struct, interface, method, union, tilde, Groups, MaybeType, no_type, given_type}
use Rattle.ui_grammar.specs.Word.{Word, Mark}
use Rattle.ui_grammar.specs.Both.{result_is_open}
use Rattle.ui_grammar.specs.Spells.{SpellsType, SpellsGroups, SpellsMaybeType}
use Rattle.ui_grammar.specs.Fits.{plain_type, result, all_named, all_bare, type_depth, groups_depth, maybe_type_depth, FitsType, FitsGroups, FitsMaybeType}
use Rattle.ui_parse.specs.Reader.{first, marked}
use Rattle.ui_parse.proofs.Outcomes.{take_mark, take_other, expect_mark}
use Rattle.ui_syntax.specs.Cover.{Read}
use Rattle.ui_syntax.specs.Types.{Nested, of_type, results, signature, func_of, method_of, func_type}
use Rattle.ui_syntax.proofs.ByBudget.{NoType, QuietType}
use Rattle.ui_syntax.proofs.CompleteTypesBase.{Below, group_list, groups_of_list, inner_type}
use Rattle.ui_syntax.proofs.CompleteTypesParams.{params_read}

-- nothing follows that goes on with the results
pub record QuietResult (r : MaybeType) (ts : List Word) : Type 0 where
  pub no_dot : first (marked Period) ts ≡ None
  pub no_bracket : first (marked LBracket) ts ≡ None
  pub no_result : result_is_open r ≡ true → NoType ts

pub quiet_func : (x : Spot) (gs : Groups) (r : MaybeType) (ts : List Word) → QuietType (func x gs r) ts → QuietResult r ts
quiet_func x gs r ts q = record { no_dot = q.no_dot; no_bracket = q.no_bracket; no_result = q.no_result }

pub quiet_method : (n : Placed) (gs : Groups) (r : MaybeType) (ts : List Word) → QuietType (method n gs r) ts → QuietResult r ts
quiet_method n gs r ts q = record { no_dot = q.no_dot; no_bracket = q.no_bracket; no_result = q.no_result }

module _ (room low : ℕ) (inner : Nested) (has : Below room low inner) where
  type_result : (t : TypeTree) (ts rest : List Word) → SpellsType t ts rest → FitsType t plain_type → type_depth t ≤ room → QuietResult (given_type t) rest → first (marked LParen) ts ≡ None → results room inner ts ≡ Ok (record { of = given_type t; depth = type_depth t }, rest)
  unfolding results
  type_result t ts rest s fits le q no_paren =
      let type_is = inner_type room low inner has t ts rest s fits le (record { no_dot = q.no_dot; no_bracket = q.no_bracket; no_result = q.no_result }) in
      take_other (marked LParen) _ _ ts no_paren ∙ rw type_is.is refl

  listed_result : (x : Spot) (gs : Groups) (ts rest : List Word) → SpellsType (listed x gs) ts rest → FitsType (listed x gs) result → groups_depth gs ≤ room → results room inner ts ≡ Ok (record { of = given_type (listed x gs); depth = groups_depth gs }, rest)
  unfolding results
  listed_result x gs ts rest s fits le = ap (results room inner) s.1 ∙ take_mark LParen _ _ x s.0 ∙ rw (params_read room low inner has gs s.0 rest s.2 fits.1 fits.2 le, groups_of_list gs) refl

  no_result : (ts : List Word) → NoType ts → results room inner ts ≡ Ok (record { of = no_type; depth = 0 }, ts)
  unfolding results
  no_result ts q = take_other (marked LParen) _ _ ts q.no_paren ∙ rw (has.own.no_type ts q) refl

  given_result : (t : TypeTree) (ts rest : List Word) → SpellsType t ts rest → FitsType t result → type_depth t ≤ room → QuietResult (given_type t) rest → results room inner ts ≡ Ok (record { of = given_type t; depth = type_depth t }, rest)
  given_result (named n m vs) ts rest s fits le q = type_result (named n m vs) ts rest s (refl, fits.1) le q (ap (first (marked LParen)) s.2)
  given_result (parenthesized x t) ts rest s fits le q = let e = fits.0 in absurd cc
  given_result (pointer x t) ts rest s fits le q = type_result (pointer x t) ts rest s (refl, fits.1) le q (ap (first (marked LParen)) s.1)
  given_result (slice x t) ts rest s fits le q = type_result (slice x t) ts rest s (refl, fits.1) le q (ap (first (marked LParen)) s.2)
  given_result (array x e t) ts rest s fits le q = type_result (array x e t) ts rest s (refl, fits.1, fits.2) le q (ap (first (marked LParen)) s.3)
  given_result (counted x t) ts rest s fits le q = let e = fits.0 in absurd cc
  given_result (mapping x k t) ts rest s fits le q = type_result (mapping x k t) ts rest s (refl, fits.1, fits.2) le q (ap (first (marked LParen)) s.4)
  given_result (func x gs r) ts rest s fits le q = type_result (func x gs r) ts rest s (refl, fits.1, fits.2, fits.3) le q (ap (first (marked LParen)) s.3)
  given_result (listed x gs) ts rest s fits le q = listed_result x gs ts rest s fits le
  given_result (struct x gs) ts rest s fits le q = type_result (struct x gs) ts rest s (refl, fits.1, fits.2) le q (ap (first (marked LParen)) s.2)
  given_result (interface x us) ts rest s fits le q = type_result (interface x us) ts rest s (refl, fits.1) le q (ap (first (marked LParen)) s.2)
  given_result (method n gs r) ts rest s fits le q = let e = fits.0 in absurd cc
  given_result (union x us) ts rest s fits le q = let e = fits.0 in absurd cc
  given_result (tilde x t) ts rest s fits le q = let e = fits.0 in absurd cc

  pub results_read : (r : MaybeType) (ts rest : List Word) → SpellsMaybeType r ts rest → FitsMaybeType r result → maybe_type_depth r ≤ room → QuietResult r rest → results room inner ts ≡ Ok (record { of = r; depth = maybe_type_depth r }, rest)
  results_read no_type ts rest s fits le q = ap (results room inner) s ∙ no_result rest (q.no_result refl)
  results_read (given_type t) ts rest s fits le q = given_result t ts rest s fits le q

  -- what a signature's reader makes of it
  pub signature_complete : (make : List (Group TypeTree) → MaybeType → ℕ → Read TypeTree) (gs : Groups) (r : MaybeType) (ts c rest : List Word)
      → SpellsGroups Comma RParen gs ts c → SpellsMaybeType r c rest → (all_named gs || all_bare gs) ≡ true → FitsGroups gs plain_type → FitsMaybeType r result → suc (max (groups_depth gs) (maybe_type_depth r)) ≤ suc room → QuietResult r rest
      → signature room inner make ts ≡ Ok (make (group_list gs) r (suc (max (groups_depth gs) (maybe_type_depth r))), rest)
  unfolding signature
  signature_complete make gs r ts c rest s t kinds fits result_fits le q =
      rw (params_read room low inner has gs ts c s kinds fits (omega arith), results_read r c rest t result_fits (omega arith) q) refl

  pub func_signature : (x : Spot) (gs : Groups) (r : MaybeType) (ts c rest : List Word)
      → SpellsGroups Comma RParen gs ts c → SpellsMaybeType r c rest → (all_named gs || all_bare gs) ≡ true → FitsGroups gs plain_type → FitsMaybeType r result → suc (max (groups_depth gs) (maybe_type_depth r)) ≤ suc room → QuietResult r rest
      → signature room inner (func_of room inner x) ts ≡ Ok (of_type (func x gs r) x (suc (max (groups_depth gs) (maybe_type_depth r))), rest)
  func_signature x gs r ts c rest s t kinds fits result_fits le q = signature_complete (func_of room inner x) gs r ts c rest s t kinds fits result_fits le q ∙ rw (groups_of_list gs) refl

  pub method_signature : (n : Placed) (gs : Groups) (r : MaybeType) (ts c rest : List Word)
      → SpellsGroups Comma RParen gs ts c → SpellsMaybeType r c rest → (all_named gs || all_bare gs) ≡ true → FitsGroups gs plain_type → FitsMaybeType r result → suc (max (groups_depth gs) (maybe_type_depth r)) ≤ suc room → QuietResult r rest
      → signature room inner (method_of room inner n) ts ≡ Ok (of_type (method n gs r) n.spot (suc (max (groups_depth gs) (maybe_type_depth r))), rest)
  method_signature n gs r ts c rest s t kinds fits result_fits le q = signature_complete (method_of room inner n) gs r ts c rest s t kinds fits result_fits le q ∙ rw (groups_of_list gs) refl

  pub func_read : (x : Spot) (gs : Groups) (r : MaybeType) (ts b c rest : List Word)
      → Mark LParen ts b → SpellsGroups Comma RParen gs b c → SpellsMaybeType r c rest → (all_named gs || all_bare gs) ≡ true → FitsGroups gs plain_type → FitsMaybeType r result → suc (max (groups_depth gs) (maybe_type_depth r)) ≤ suc room → QuietResult r rest
      → func_type room inner x ts ≡ Ok (of_type (func x gs r) x (suc (max (groups_depth gs) (maybe_type_depth r))), rest)
  func_read x gs r ts b c rest paren s t kinds fits result_fits le q = ap (func_type room inner x) paren.is ∙ rw (expect_mark, func_signature x gs r b c rest s t kinds fits result_fits le q) refl
