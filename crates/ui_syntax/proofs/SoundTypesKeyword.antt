-- Functions, structs and interfaces, and which of the types that no expression begins with comes.
use Rattle.std.proofs.Common.{inr, ℕ, suc, ◌≤◌, List, [], ◌∷◌, Option, refl, ap, arith}
use Rattle.std.specs.Prelude.{nat_le}
use Rattle.std.proofs.lemmas.Bool.{leb-true}
use Rattle.ui_base.specs.declared.value.Spot.{Spot}
use Rattle.ui_scan.specs.declared.kind.TokenKind.TheVariants.{LParen, RParen, LBracket, LBrace, RBrace, Semi, Map, Func, Struct, Interface}
use Rattle.ui_tree.specs.declared.part.Group.{Group}
use Rattle.ui_tree.specs.Tree.{TypeTree, func, struct, interface}
use Rattle.ui_tree.specs.View.{types, groups, kept}
use Rattle.ui_grammar.specs.Word.{Word, mark}
use Rattle.ui_grammar.specs.Fits.{interface_element}
use Rattle.ui_grammar.proofs.Frames.{Spelling}
use Rattle.ui_parse.specs.Reader.{Reader, take_by, marked}
use Rattle.ui_parse.proofs.Outcomes.{Holds, good, bind, mono, choose}
use Rattle.ui_parse.proofs.Steady.{Steady}
use Rattle.ui_syntax.specs.declared.site.TypeSite.{TypeSite}
use Rattle.ui_syntax.specs.declared.site.TypeSite.TheVariants as at
use Rattle.ui_syntax.specs.Cover.{Read}
use Rattle.ui_syntax.specs.Types.{Nested, Listed, Params, a_lower_type, an_element, param, field, struct_type, interface_type, map_type, bracket_type, func_of, func_type, opened, deep_type, operand_type}
use Rattle.ui_syntax.proofs.ByBudget.{Begun, Stops, TypeForm, IsMaybeRead, IsSoundAt}
use Rattle.ui_syntax.proofs.Begun.{Short, short_as, short_mark, short_then, begun_as, behind_word, expect_then, mark_at}
use Rattle.ui_syntax.proofs.Runs.{FormOf}
use Rattle.ui_syntax.proofs.SoundTypesLists.{GoodTypes, AllTypes, all_types_holds}
use Rattle.ui_syntax.proofs.SoundTypesRead.{type_ok, or_refuse_holds, opened_holds, element_ok}
use Rattle.ui_syntax.proofs.SoundTypesGroups.{fit_none}
use Rattle.ui_syntax.proofs.SoundTypesParams.{Whole}
use Rattle.ui_syntax.proofs.SoundTypesParamEnds.{GoodGroups}
use Rattle.ui_syntax.proofs.SoundTypesSig.{short_result, SigForm, signature_holds}
use Rattle.ui_syntax.proofs.SoundTypesStruct.{Fields, FieldsOk, fields_holds}
use Rattle.ui_syntax.proofs.SoundTypesOperand.{OperandSite, OperandRead, OperandForm, at_site, map_holds, bracket_holds}

-- ---- the shortest of lists in parentheses or braces

short_params : (room : ℕ) → Short (FormOf Whole (GoodGroups room))
short_params room = short_as (short_mark RParen) (λ us rs m. record { all = []; spells = m; ok = record { styled = refl; fit = fit_none room } })

pub short_sig : (room : ℕ) → Short (SigForm room)
short_sig room = short_then (short_params room) (short_result room)

short_fields : (room : ℕ) → Short (FormOf Fields (FieldsOk room))
short_fields room = short_as (short_mark RBrace) (λ us rs m. record { all = []; spells = m; ok = (refl, fit_none room) })

abbrev Elements : List TypeTree → Spelling
Elements = AllTypes Semi RBrace

short_elements : (room : ℕ) → Short (FormOf Elements (GoodTypes interface_element room))
short_elements room = short_as (short_mark RBrace) (λ us rs m. record { all = []; spells = m; ok = (tt, omega arith) })

module _ (room low : ℕ) (inner : Nested) (below : 2 ≤ room → suc low ≤ room) (own : IsSoundAt room inner.level inner.maybe_type) (lower : IsSoundAt low inner.lower_level inner.lower_maybe_type)
    (lower_is : Steady (a_lower_type room inner)) (param_is : (ps : Params) → Steady (param room inner ps)) (field_is : (l : Listed (Group TypeTree)) → Steady (field room inner l)) (element_is : Steady (an_element room inner)) where
  abbrev budget : ℕ
  budget = suc room

  func_holds : (s : Spot) (ws : List Word) → Holds (OperandRead budget (mark Func s ∷ ws)) (Begun (OperandForm budget) (mark Func s ∷ ws)) (func_type room inner s ws)
  func_holds s ws = mono (expect_then LParen ws (short_sig room) (λ y n e. mono (signature_holds room low inner below own lower lower_is param_is {Q = OperandRead budget (mark Func s ∷ ws)} (func_of room inner s) n
      (λ gs r k rest h. record {
        begins = refl;
        spells = (ws, n, h.middle, refl, record { spot = y; is = e }, h.params, h.results);
        is = record { no_expression = refl; no_pointer = refl; no_parentheses = refl; no_count = refl; fits = (refl, h.styled, h.params_fit, h.results_fit) };
        sized = h.sized;
        shallow = h.shallow;
        no_results = h.no_results;
      }))
      (λ x r q. q) (λ r g. inr g)))
      (λ x r q. q)
      (λ r st. begun_as (behind_word (mark Func s) (short_then (short_mark LParen) (short_sig room)) st) (λ us rs h. let f = h.2.2.1 in let r = h.2.2.2 in record {
        tree = func s (groups kept f.all) r.of;
        spells = (h.0, h.2.0, h.2.2.0, h.1, h.2.1, f.spells, r.spells);
        is = record { no_expression = refl; no_pointer = refl; no_parentheses = refl; no_count = refl; fits = (refl, f.ok.styled, f.ok.fit.fits, r.fits) };
        shallow = omega (arith, f.ok.fit.shallow, r.shallow);
        closed = r.closed;
      }))

  struct_holds : (s : Spot) (ws : List Word) → Holds (OperandRead budget (mark Struct s ∷ ws)) (Begun (OperandForm budget) (mark Struct s ∷ ws)) (struct_type room inner s ws)
  unfolding struct_type
  struct_holds s ws = mono (expect_then LBrace ws (short_fields room) (λ y n e. bind (fields_holds room n inner (λ us. type_ok (omega arith) (or_refuse_holds (own.type at.Plain us))) field_is)
      (λ gs rest h. good (record {
        begins = refl;
        spells = (ws, n, refl, record { spot = y; is = e }, h.spells);
        is = record { no_expression = refl; no_pointer = refl; no_parentheses = refl; no_count = refl; fits = (refl, h.fit.named, h.fit.fits) };
        sized = ap suc h.fit.sized;
        shallow = omega (arith, h.fit.shallow);
        no_results = λ k. absurd cc;
      }))
      (λ rest g. inr g)))
      (λ x r q. q)
      (λ r st. begun_as (behind_word (mark Struct s) (short_then (short_mark LBrace) (short_fields room)) st) (λ us rs h. let f = h.2.2 in record {
        tree = struct s (groups kept f.all);
        spells = (h.0, h.2.0, h.1, h.2.1, f.spells);
        is = record { no_expression = refl; no_pointer = refl; no_parentheses = refl; no_count = refl; fits = (refl, f.ok.0, f.ok.1.fits) };
        shallow = omega (arith, f.ok.1.shallow);
        closed = refl;
      }))

  interface_holds : (s : Spot) (ws : List Word) → Holds (OperandRead budget (mark Interface s ∷ ws)) (Begun (OperandForm budget) (mark Interface s ∷ ws)) (interface_type room inner s ws)
  unfolding interface_type
  interface_holds s ws = mono (expect_then LBrace ws (short_elements room) (λ y n e. bind (all_types_holds Semi RBrace interface_element room (an_element room inner) element_is (λ us. element_ok (or_refuse_holds (own.type at.Element us))) n)
      (λ us rest h. good (record {
        begins = refl;
        spells = (ws, n, refl, record { spot = y; is = e }, h.spells);
        is = record { no_expression = refl; no_pointer = refl; no_parentheses = refl; no_count = refl; fits = (refl, h.ok.fits) };
        sized = ap suc h.ok.sized;
        shallow = omega (arith, h.ok.shallow);
        no_results = λ k. absurd cc;
      }))
      (λ rest g. inr g)))
      (λ x r q. q)
      (λ r st. begun_as (behind_word (mark Interface s) (short_then (short_mark LBrace) (short_elements room)) st) (λ us rs h. let f = h.2.2 in record {
        tree = interface s (types f.all);
        spells = (h.0, h.2.0, h.1, h.2.1, f.spells);
        is = record { no_expression = refl; no_pointer = refl; no_parentheses = refl; no_count = refl; fits = (refl, f.ok.0) };
        shallow = omega (arith, f.ok.1);
        closed = refl;
      }))

  -- ---- the first word tells

  abbrev Found : TypeSite → List Word → Option (Read TypeTree) → List Word → Type 0
  Found p us = IsMaybeRead p budget us

  abbrev Fault : TypeSite → List Word → List Word → Type 0
  Fault p us = Stops (TypeForm p budget) us

  module _ (p : TypeSite) (site : OperandSite p) (other : Reader (Option (Read TypeTree))) (ts : List Word) (other_is : Holds (Found p ts) (Fault p ts) (other ts)) where
    deep_holds : Holds (Found p ts) (Fault p ts) (deep_type room inner p other ts)
    deep_holds = choose (nat_le 1 room) (take_by (marked LBracket) (λ s. opened room inner (bracket_type room inner p s)) (take_by (marked Map) (λ s. opened room inner (map_type room inner s)) other)) other ts
        (λ e. mark_at (Found p) (Fault p) LBracket _ _ ts (λ s ws. opened_holds (bracket_holds room inner own low below lower p site s ws (leb-true _ _ e)))
        (λ _. mark_at (Found p) (Fault p) Map _ other ts (λ s ws. opened_holds (at_site p site (map_holds room inner own s ws (leb-true _ _ e)))) (λ _. other_is)))
        (λ _. other_is)

    pub operand_holds : Holds (Found p ts) (Fault p ts) (operand_type room inner p other ts)
    unfolding operand_type
    operand_holds = mark_at (Found p) (Fault p) Func _ _ ts (λ s ws. opened_holds (at_site p site (func_holds s ws)))
        (λ _. mark_at (Found p) (Fault p) Struct _ _ ts (λ s ws. opened_holds (at_site p site (struct_holds s ws)))
        (λ _. mark_at (Found p) (Fault p) Interface _ _ ts (λ s ws. opened_holds (at_site p site (interface_holds s ws))) (λ _. deep_holds)))
