-- Types that no expression begins with: functions, structs, interfaces, arrays, slices and maps.
use Rattle.std.proofs.Common.{◌≡◌, inl, inr, ℕ, suc, ◌-◌, ◌≤◌, true, false, List, ◌∷◌, Option, Some, None, refl, ap, arith}
use Rattle.std.specs.Prelude.{nat_le}
use Rattle.std.proofs.lemmas.Bool.{leb-true}
use Rattle.ui_base.specs.declared.value.Spot.{Spot}
use Rattle.ui_scan.specs.declared.kind.TokenKind.TheVariants.{LParen, LBracket, RBracket, Ellipsis, Map}
use Rattle.ui_tree.specs.Tree.{TypeTree, slice, array, counted, mapping, Tree}
use Rattle.ui_grammar.specs.Word.{Word, mark, Begins}
use Rattle.ui_grammar.specs.Both.{is_expression, ends_open}
use Rattle.ui_grammar.specs.Spells.{SpellsType}
use Rattle.ui_grammar.specs.Fits.{plain_type, is_pointer, type_depth, FitsType}
use Rattle.ui_grammar.proofs.Frames.{frame_mark}
use Rattle.ui_parse.specs.Reader.{Outcome, Reader, and_then, pure, first, take_by, marked}
use Rattle.ui_parse.proofs.Outcomes.{Holds, good, bind, mono, choose, mark_holds}
use Rattle.ui_syntax.specs.declared.site.Site.TheVariants as site
use Rattle.ui_syntax.specs.declared.site.TypeSite.{TypeSite}
use Rattle.ui_syntax.specs.declared.site.TypeSite.TheVariants as at
use Rattle.ui_syntax.specs.Cover.{Read, only_type, is_counted, is_parenthesized}
use Rattle.ui_syntax.specs.Types.{Nested, a_type, a_lower_type, of_type, map_type, array_type, counted_type, counted_or_array, bracket_type}
use Rattle.ui_syntax.proofs.ByBudget.{Begun, Stops, FitsAt, IsOperandType, TypeForm, IsTypeRead, CoverForm, FitsCover, cover_depth, IsExprRead, IsSoundAt}
use Rattle.ui_syntax.proofs.Begun.{short_mark, short_then, short_type, begun_as, stops_as, begun_stops, behind, behind_word, frame_word, then_holds, expect_then}
use Rattle.ui_syntax.proofs.SoundTypesLists.{TypeFits, TypeOk}
use Rattle.ui_syntax.proofs.SoundTypesNamed.{short_fits}
use Rattle.ui_syntax.proofs.SoundTypesRead.{type_ok, or_refuse_holds, frame_ok, deeper}
use Rattle.ui_syntax.proofs.SoundTypesBracket.{AsExpr, ExprFits, frame_as_expr, short_expr_fits}

-- ---- what such a type is

pub record IsPlainOperand (t : TypeTree) : Type 0 where
  pub no_expression : is_expression t ≡ false
  pub no_pointer : is_pointer t ≡ false
  pub no_parentheses : is_parenthesized t ≡ false
  pub no_count : is_counted t ≡ false
  pub fits : FitsType t plain_type

-- where such types are read
abbrev pub OperandSite : TypeSite → Type 0
OperandSite at.Plain = Unit {0}
OperandSite at.Element = ⊥
OperandSite at.Operand = Unit {0}
OperandSite at.Argument = Unit {0}

operand_is : (t : TypeTree) → IsPlainOperand t → IsOperandType t
operand_is t h = record { no_expression = h.no_expression; no_pointer = h.no_pointer; no_parentheses = h.no_parentheses; fits = inl h.fits }

fits_site : (p : TypeSite) (b : ℕ) (t : TypeTree) → OperandSite p → IsPlainOperand t → type_depth t ≤ b → FitsAt p b t
fits_site at.Plain b t site h le = (h.fits, le)
fits_site at.Element b t site h le = absurd site
fits_site at.Operand b t site h le = (operand_is t h, le)
fits_site at.Argument b t site h le = (operand_is t h, le, λ e. let no : is_counted t ≡ false = h.no_count in absurd cc)

pub record OperandRead (b : ℕ) (ts : List Word) (x : Read TypeTree) (rest : List Word) : Type 0 where
  pub begins : Begins x.spot ts
  pub spells : SpellsType x.tree ts rest
  pub is : IsPlainOperand x.tree
  pub sized : type_depth x.tree ≡ x.depth
  pub shallow : x.depth ≤ b
  pub no_results : ends_open x.tree ≡ true → first (marked LParen) rest ≡ None

pub record OperandForm (b : ℕ) (ts rest : List Word) : Type 0 where
  pub tree : TypeTree
  pub spells : SpellsType tree ts rest
  pub is : IsPlainOperand tree
  pub shallow : type_depth tree ≤ b
  pub closed : ends_open tree ≡ false

pub at_site : {b : ℕ} {ts : List Word} {o : Outcome (Read TypeTree)} (p : TypeSite) → OperandSite p → Holds (OperandRead b ts) (Begun (OperandForm b) ts) o → Holds (IsTypeRead p b ts) (Begun (TypeForm p b) ts) o
at_site {b = b} p site h = mono h
    (λ x r q. record { begins = q.begins; spells = q.spells; fits = fits_site p b x.tree site q.is (omega (arith, q.sized, q.shallow)); sized = q.sized; no_results = q.no_results })
    (λ r g. begun_as g (λ us ws f. record { tree = f.tree; spells = f.spells; fits = fits_site p b f.tree site f.is f.shallow; closed = f.closed }))

-- ---- an expression at a plain site

plain_expr : (b : ℕ) (x : Read Tree) (ts rest : List Word) → IsExprRead site.Plain b 1 ts x rest → AsExpr b x ts rest
plain_expr b x ts rest r = by_only (only_type x.tree) r.fits r.sized
  where
    by_only : (o : Option TypeTree) → FitsCover site.Plain b 1 x.tree o → cover_depth x.tree o ≡ x.depth → AsExpr b x ts rest
    by_only None f k = record { spells = r.spells; fits = f.fits; sized = k; shallow = omega (arith, f.shallow, k) }
    by_only (Some t) f k = absurd f.room

plain_form : (b : ℕ) (us ws : List Word) → CoverForm site.Plain b 1 us ws → ExprFits b us ws
plain_form b us ws (inl h) = record { tree = h.tree; spells = h.spells; fits = h.fits.fits; shallow = h.fits.shallow }
plain_form b us ws (inr h) = absurd h.fits.room

module _ (room : ℕ) (inner : Nested) (own : IsSoundAt room inner.level inner.maybe_type) where
  abbrev budget : ℕ
  budget = suc room

  pub type_read : (us : List Word) → Holds (IsTypeRead at.Plain room us) (Stops (TypeForm at.Plain room) us) (a_type room inner us)
  type_read us = or_refuse_holds (own.type at.Plain us)

  type_sound : (us : List Word) → Holds (TypeOk plain_type room us) (Stops (TypeFits plain_type room) us) (a_type room inner us)
  type_sound us = type_ok (omega arith) (type_read us)

  expr_sound : (us : List Word) → Holds (λ x r. AsExpr room x us r) (Stops (ExprFits room) us) (inner.level site.Plain 1 us)
  expr_sound us = mono (own.expr site.Plain 1 us (omega arith)) (λ x r q. plain_expr room x us r q) (λ r st. stops_as st (plain_form room))

  pub map_holds : (s : Spot) (ws : List Word) → 1 ≤ room → Holds (OperandRead budget (mark Map s ∷ ws)) (Begun (OperandForm budget) (mark Map s ∷ ws)) (map_type room inner s ws)
  map_holds s ws le =
      let short_last = short_then (short_mark RBracket) (short_type room le) in
      let short = short_then (short_fits room le) short_last in
      mono (expect_then LBracket ws short (λ y n e. then_holds short_last (type_sound n) (λ k m r. frame_ok room n k m r)
      (λ k m r. expect_then RBracket m (short_type room le) (λ z o e2. bind (type_read o)
      (λ t rest q. good (record {
        begins = refl;
        spells = (ws, n, m, o, refl, record { spot = y; is = e }, r.spells, record { spot = z; is = e2 }, q.spells);
        is = record { no_expression = refl; no_pointer = refl; no_parentheses = refl; no_count = refl; fits = (refl, r.fits, q.fits.0) };
        sized = omega (arith, r.sized, q.sized);
        shallow = omega (arith, r.shallow, q.fits.1, q.sized);
        no_results = q.no_results;
      }))
      (λ rest st. st)))))
      (λ x r q. q)
      (λ r st. begun_as (behind_word (mark Map s) (short_then (short_mark LBracket) short) st) (λ us rs h. let k = h.2.2.1 in let t = h.2.2.2.2 in record {
        tree = mapping s k.tree t.tree;
        spells = (h.0, h.2.0, h.2.2.0, h.2.2.2.0, h.1, h.2.1, k.spells, h.2.2.2.1, t.spells);
        is = record { no_expression = refl; no_pointer = refl; no_parentheses = refl; no_count = refl; fits = (refl, k.fits, t.fits.0) };
        shallow = omega (arith, k.shallow, t.fits.1);
        closed = t.closed;
      }))

  array_holds : (s : Spot) (ws : List Word) → 1 ≤ room → Holds (OperandRead budget (mark LBracket s ∷ ws)) (Begun (OperandForm budget) (mark LBracket s ∷ ws)) (array_type room inner s ws)
  array_holds s ws le =
      let short_last = short_then (short_mark RBracket) (short_type room le) in
      mono (then_holds short_last (expr_sound ws) (λ x m a. frame_as_expr room x ws m a)
      (λ x m a. expect_then RBracket m (short_type room le) (λ z o e. bind (type_read o)
      (λ t rest q. good (record {
        begins = refl;
        spells = (ws, m, o, refl, a.spells, record { spot = z; is = e }, q.spells);
        is = record { no_expression = refl; no_pointer = refl; no_parentheses = refl; no_count = refl; fits = (refl, a.fits, q.fits.0) };
        sized = omega (arith, a.sized, q.sized);
        shallow = omega (arith, a.shallow, q.fits.1, q.sized);
        no_results = q.no_results;
      }))
      (λ rest st. st))))
      (λ x r q. q)
      (λ r st. begun_as (behind_word (mark LBracket s) (short_then (short_expr_fits room le) short_last) st) (λ us rs h. let e = h.2.1 in let t = h.2.2.2 in record {
        tree = array s e.tree t.tree;
        spells = (h.0, h.2.0, h.2.2.0, h.1, e.spells, h.2.2.1, t.spells);
        is = record { no_expression = refl; no_pointer = refl; no_parentheses = refl; no_count = refl; fits = (refl, e.fits, t.fits.0) };
        shallow = omega (arith, e.shallow, t.fits.1);
        closed = t.closed;
      }))

  slice_holds : (s y : Spot) (ws n : List Word) → 1 ≤ room → ws ≡ mark RBracket y ∷ n → Holds (OperandRead budget (mark LBracket s ∷ ws)) (Begun (OperandForm budget) (mark LBracket s ∷ ws)) (and_then (a_type room inner n) (λ t. pure (of_type (slice s t.tree) s (suc t.depth))))
  slice_holds s y ws n le e = bind (type_read n)
      (λ t rest q. good (record {
        begins = refl;
        spells = (ws, n, refl, record { spot = y; is = e }, q.spells);
        is = record { no_expression = refl; no_pointer = refl; no_parentheses = refl; no_count = refl; fits = (refl, q.fits.0) };
        sized = ap suc q.sized;
        shallow = omega (arith, q.fits.1, q.sized);
        no_results = q.no_results;
      }))
      (λ rest st. begun_as (behind (frame_word (mark LBracket s) ws) (behind (frame_mark RBracket ws n (record { spot = y; is = e })) (begun_stops (short_type room le) st))) (λ us rs h. let t = h.2.2 in record {
        tree = slice s t.tree;
        spells = (h.0, h.2.0, h.1, h.2.1, t.spells);
        is = record { no_expression = refl; no_pointer = refl; no_parentheses = refl; no_count = refl; fits = (refl, t.fits.0) };
        shallow = omega (arith, t.fits.1);
        closed = t.closed;
      }))

  -- `[...]T`, where the site takes it
  counted_holds : (p : TypeSite) (c : ℕ) (type : Reader (Read TypeTree)) (s y : Spot) (ws n : List Word) → 1 ≤ c → ((t : TypeTree) → FitsType t plain_type → type_depth t ≤ c → FitsAt p budget (counted s t))
      → ((us : List Word) → Holds (IsTypeRead at.Plain c us) (Stops (TypeForm at.Plain c) us) (type us)) → ws ≡ mark Ellipsis y ∷ n
      → Holds (IsTypeRead p budget (mark LBracket s ∷ ws)) (Begun (TypeForm p budget) (mark LBracket s ∷ ws)) (counted_type room inner type s n)
  counted_holds p c type s y ws n le fits sound e = mono (expect_then RBracket n (short_type c le) (λ z o e2. bind (sound o)
      (λ t rest q. good (record {
        begins = refl;
        spells = (ws, n, o, refl, record { spot = y; is = e }, record { spot = z; is = e2 }, q.spells);
        fits = fits t.tree q.fits.0 q.fits.1;
        sized = ap suc q.sized;
        no_results = q.no_results;
      }))
      (λ rest st. st)))
      (λ x r q. q)
      (λ r st. begun_as (behind (frame_word (mark LBracket s) ws) (behind (frame_mark Ellipsis ws n (record { spot = y; is = e })) (begun_stops (short_then (short_mark RBracket) (short_type c le)) st)))
      (λ us rs h. let t = h.2.2.2 in record { tree = counted s t.tree; spells = (h.0, h.2.0, h.2.2.0, h.1, h.2.1, h.2.2.1, t.spells); fits = fits t.tree t.fits.0 t.fits.1; closed = t.closed }))

  counted_is : (s : Spot) (t : TypeTree) → FitsType t plain_type → IsOperandType (counted s t)
  counted_is s t h = record { no_expression = refl; no_pointer = refl; no_parentheses = refl; fits = inr (refl, (refl, h)) }

  module _ (low : ℕ) (below : 2 ≤ room → suc low ≤ room) (lower : IsSoundAt low inner.lower_level inner.lower_maybe_type) where
    counted_or_array_holds : (p : TypeSite) → OperandSite p → (s : Spot) (ws : List Word) → 1 ≤ room → Holds (IsTypeRead p budget (mark LBracket s ∷ ws)) (Begun (TypeForm p budget) (mark LBracket s ∷ ws)) (counted_or_array room inner p s ws)
    counted_or_array_holds at.Plain site s ws le = at_site at.Plain tt (array_holds s ws le)
    counted_or_array_holds at.Element site s ws le = absurd site
    counted_or_array_holds at.Operand site s ws le = mark_holds Ellipsis _ (array_type room inner s) ws
        (λ y n e. counted_holds at.Operand room (a_type room inner) s y ws n le (λ t h d. (counted_is s t h, omega (arith, d))) type_read e)
        (λ _. at_site at.Operand tt (array_holds s ws le))
    counted_or_array_holds at.Argument site s ws le =
        let other = at_site at.Argument tt (array_holds s ws le) in
        choose (nat_le 2 room) (take_by (marked Ellipsis) (λ _. counted_type room inner (a_lower_type room inner) s) (array_type room inner s)) (array_type room inner s) ws
        (λ two. let le2 : 2 ≤ room = leb-true _ _ two in
        mark_holds Ellipsis _ (array_type room inner s) ws
        (λ y n e. counted_holds at.Argument (room - 1) (a_lower_type room inner) s y ws n (omega (arith, le2)) (λ t h d. (counted_is s t h, omega (arith, d, le2), λ _. omega (arith, d, le2)))
        (λ us. deeper (omega (arith, below le2)) (or_refuse_holds (lower.type at.Plain us))) e)
        (λ _. other))
        (λ _. other)

    pub bracket_holds : (p : TypeSite) → OperandSite p → (s : Spot) (ws : List Word) → 1 ≤ room → Holds (IsTypeRead p budget (mark LBracket s ∷ ws)) (Begun (TypeForm p budget) (mark LBracket s ∷ ws)) (bracket_type room inner p s ws)
    unfolding bracket_type
    bracket_holds p site s ws le = mark_holds RBracket _ (counted_or_array room inner p s) ws (λ y n e. at_site p site (slice_holds s y ws n le e)) (λ _. counted_or_array_holds p site s ws le)
