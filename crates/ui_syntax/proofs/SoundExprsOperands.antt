-- What is read behind a type that no expression begins with: a literal, a conversion, or the type alone.
use Rattle.std.proofs.Common.{◌≡◌, ◌⊎◌, inl, inr, ℕ, suc, ◌≤◌, max, Bool, true, false, List, [], ◌∷◌, Some, None, refl, sym, ap, subst, ◌∙◌, arith}
use Rattle.std.specs.Prelude.{◌&&◌, not, nat_le}
use Rattle.std.proofs.lemmas.Bool.{leb-true}
use Rattle.ui_base.specs.declared.value.Spot.{Spot}
use Rattle.ui_scan.specs.declared.kind.TokenKind.TheVariants.{LParen, RParen, LBrace, Comma}
use Rattle.ui_tree.specs.Tree.{TypeTree, Tree, composite, convert, type_arg}
use Rattle.ui_grammar.specs.Word.{Word, mark, Mark, Begins, Closes}
use Rattle.ui_grammar.specs.Both.{is_expression, ends_open}
use Rattle.ui_grammar.specs.Spells.{SpellsType}
use Rattle.ui_grammar.specs.Fits.{plain_type, of_literal, is_header, is_named, type_depth, FitsType}
use Rattle.ui_grammar.proofs.Frames.{Framed, Then}
use Rattle.ui_parse.specs.Reader.{and_then, ◌>>=◌, pure, refuse, first, marked, eat, expect}
use Rattle.ui_parse.proofs.Outcomes.{Holds, good, bad, bind, choose, mark_holds, first_mark}
use Rattle.ui_syntax.specs.declared.site.Site.{Site}
use Rattle.ui_syntax.specs.declared.site.Site.TheVariants.{Plain}
use Rattle.ui_syntax.specs.Cover.{Read, is_counted, has_literals}
use Rattle.ui_syntax.specs.Types.{Nested}
use Rattle.ui_syntax.specs.Exprs.{of_tree, takes_types, an_expr, alone, convert_or, literal_of, behind_type}
use Rattle.ui_syntax.proofs.ByBudget.{Begun, Stops, ExprForm, CoverForm, ElemsForm, AreElemsRead, IsSoundAt}
use Rattle.ui_syntax.specs.Read.{place_at}
use Rattle.ui_syntax.proofs.Begun.{Short, short_mark, short_then, short_expr, begun_as, behind_none, behind_stops, then_holds, no_spot, Is}
use Rattle.ui_syntax.proofs.SoundExprsFronts.{Standing, frame_standing_type, frame_to, after, closes_then, short_closes, short_elems}
use Rattle.ui_syntax.proofs.SoundExprsShut.{shut}
use Rattle.ui_syntax.proofs.SoundExprsForms.{IsCoverRead}
use Rattle.ui_syntax.proofs.SoundExprsInner.{frame_whole, plain_read}
use Rattle.ui_syntax.proofs.SoundExprsFacts.{Operand, IsTypeOperand, counted_literal, literal_fits, plain_fits, unnamed, operand_positive}

split_on : (a b : Bool) → (a && not b) ≡ true → (a ≡ true) × (b ≡ false)
split_on true true e = absurd cc
split_on true false e = (refl, refl)
split_on false b e = absurd cc

split_off : (a b : Bool) → (a && not b) ≡ false → (a ≡ false) ⊎ (b ≡ true)
split_off true true e = inr refl
split_off true false e = absurd cc
split_off false b e = inl refl

pub unnamed_literal : (t : TypeTree) (b : Bool) → is_expression t ≡ false → (is_named t && b) ≡ false
unnamed_literal t b e = rw (unnamed t e) refl

-- ---- how such a type goes on

-- [ Expr ] of a conversion, behind the type
abbrev pub Converted : ℕ → List Word → List Word → Type 0
Converted b = Then (Mark LParen) (Then (ExprForm Plain b 1) (Closes Comma RParen))

abbrev pub Literal : ℕ → List Word → List Word → Type 0
Literal b = Then (Mark LBrace) (ElemsForm b)

module _ (room : ℕ) (site : Site) where
  abbrev Primary : List Word → List Word → Type 0
  Primary = CoverForm site (suc room) 7

  pub convert_form : (s : Spot) (t : TypeTree) → Operand t → ends_open t ≡ false → FitsType t plain_type → type_depth t ≤ room
      → (us ws : List Word) → Then (Standing s (SpellsType t)) (Converted room) us ws → Primary us ws
  convert_form s t is closed fits le us ws h = let e = h.2.2.1 in inl (record {
    tree = convert s t e.tree;
    spells = (h.0, h.2.0, h.2.2.0, h.1.0, h.1.1, h.2.1, e.spells, h.2.2.2);
    fits = record { fits = (is.no_expression, is.no_pointer, closed, fits, e.fits.fits); shallow = omega (arith, e.fits.shallow, le); binds = omega arith };
  })

  pub literal_form : (s : Spot) (t : TypeTree) → FitsType t of_literal → (is_named t && is_header (place_at site)) ≡ false → type_depth t ≤ room
      → (us ws : List Word) → Then (Standing s (SpellsType t)) (Literal room) us ws → Primary us ws
  literal_form s t fits no_header le us ws h = let es = h.2.2 in inl (record {
    tree = composite s t es.all;
    spells = (h.0, h.2.0, h.1.0, h.1.1, h.2.1, es.spells);
    fits = record { fits = (no_header, fits, es.fits); shallow = omega (arith, es.shallow, le); binds = omega arith };
  })

  pub short_literal : 1 ≤ room → Short (Literal room)
  short_literal le = short_then (short_mark LBrace) (short_elems room le)

  pub short_converted : 1 ≤ room → Short (Converted room)
  short_converted le = short_then (short_mark LParen) (short_then (short_expr Plain room 1 le (omega arith)) (short_closes RParen))

  -- a type that is read and is no operand yet: it goes on, with `()` as results where it ends with a signature
  begun_closed : (s : Spot) (t : TypeTree) (ts rest : List Word) (b : Bool) → ends_open t ≡ b → Framed (Standing s (SpellsType t)) ts rest → Operand t → FitsType t plain_type → type_depth t ≤ room → 1 ≤ room → Begun Primary ts rest
  begun_closed s t ts rest false e fr is fits le room_le = begun_as (behind_none fr (short_converted room_le)) (convert_form s t is e fits le)
  begun_closed s t ts rest true e fr is fits le room_le = let h = shut no_spot t e in
      begun_as (behind_none fr (short_then short_paren (short_then short_close (short_converted room_le))))
      (λ us ws q. convert_form s h.tree (record { no_expression = h.expression ∙ is.no_expression; no_pointer = h.pointer_is ∙ is.no_pointer; fits = inl (h.fits plain_type fits) }) h.closed (h.fits plain_type fits) (omega (arith, h.sized, le)) us ws
      (q.2.2.0, (q.1.0, h.spells us q.2.2.0 (subst (λ (v : List Word). SpellsType t us v) (q.2.1 ∙ ap (λ (v : List Word). mark LParen no_spot ∷ v) q.2.2.1) q.1.1)), q.2.2.2))
    where
      short_paren : Short (Is (mark LParen no_spot))
      short_paren = record { words = mark LParen no_spot ∷ []; spells = λ k. refl }

      short_close : Short (Is (mark RParen no_spot))
      short_close = record { words = mark RParen no_spot ∷ []; spells = λ k. refl }

  begun_by : (s : Spot) (t : TypeTree) (ts rest : List Word) (b : Bool) → is_counted t ≡ b → Framed (Standing s (SpellsType t)) ts rest → Operand t → type_depth t ≤ room → Begun Primary ts rest
  begun_by s t ts rest true e fr is le = let room_le : 1 ≤ room = omega (arith, le, operand_positive t is.fits) in
      begun_as (behind_none fr (short_literal room_le)) (literal_form s t (literal_fits t (counted_literal t e) is.fits) (unnamed_literal t (is_header (place_at site)) is.no_expression) le)
  begun_by s t ts rest false e fr is le = begun_closed s t ts rest (ends_open t) refl fr is (plain_fits t e is.fits) le (omega (arith, le, operand_positive t is.fits))

  pub begun_operand : (s : Spot) (t : TypeTree) (ts rest : List Word) → Framed (Standing s (SpellsType t)) ts rest → Operand t → type_depth t ≤ room → Begun Primary ts rest
  begun_operand s t ts rest fr is le = begun_by s t ts rest (is_counted t) refl fr is le

module _ (room : ℕ) (inner : Nested) (own : IsSoundAt room inner.level inner.maybe_type)
    (own_braces : (ts : List Word) → Holds (AreElemsRead room ts) (Stops (ElemsForm room) ts) (inner.braces ts)) (site : Site) where
  abbrev Reads : List Word → Read Tree → List Word → Type 0
  Reads ts = IsCoverRead site (suc room) 7 ts

  abbrev Faults : List Word → List Word → Type 0
  Faults ts = Stops (CoverForm site (suc room) 7) ts

  -- behind the brace
  pub literal_sound : (ts m rest : List Word) (t : Read TypeTree) (s : Spot) → m ≡ mark LBrace s ∷ rest → Begins t.spot ts → SpellsType t.tree ts m → FitsType t.tree of_literal
      → (is_named t.tree && is_header (place_at site)) ≡ false → type_depth t.tree ≡ t.depth → t.depth ≤ room → 1 ≤ t.depth → Holds (Reads ts) (Faults ts) (literal_of room inner t rest)
  literal_sound ts m rest t s e begins spells fits no_header sized le positive =
      let fr = frame_to LBrace s (frame_standing_type t.spot t.tree ts m begins spells) e in
      bind (own_braces rest)
      (λ es r h. good (record {
        begins = begins;
        spells = (m, rest, begins, spells, record { spot = s; is = e }, h.spells);
        fits = record { fits = (no_header, fits, h.fits); shallow = omega (arith, sized, le, h.sized, h.shallow); binds = omega arith };
        sized = rw (sized, h.sized) refl;
      }))
      (λ r g. inr (begun_as (behind_stops fr (short_elems room (omega (arith, le, positive))) g)
      (λ us ws q. literal_form room site t.spot t.tree fits no_header (omega (arith, sized, le)) us ws (q.1.0, q.1.1, (q.0, q.1.2, q.2)))))

  no_results_paren : (b : Bool) (m rest : List Word) (s : Spot) → m ≡ mark LParen s ∷ rest → (b ≡ true → first (marked LParen) m ≡ None) → b ≡ false
  no_results_paren false m rest s e h = refl
  no_results_paren true m rest s e h = let clash : Some s ≡ None = sym (first_mark LParen s rest) ∙ ap (first (marked LParen)) (sym e) ∙ h refl in absurd cc

  -- behind the parenthesis
  conversion_sound : (ts m rest : List Word) (t : Read TypeTree) (s : Spot) → m ≡ mark LParen s ∷ rest → IsTypeOperand room site ts t m → is_counted t.tree ≡ false → t.depth ≤ room
      → Holds (Reads ts) (Faults ts) (and_then (an_expr room inner rest) (λ e. eat Comma >>= (λ _. expect RParen >>= (λ _. pure (of_tree (convert t.spot t.tree e.tree) t.spot (suc (max t.depth e.depth)))))))
  conversion_sound ts m rest t s e h off le =
      let closed = no_results_paren (ends_open t.tree) m rest s e h.no_results in
      let fits = plain_fits t.tree off h.is.fits in
      let positive = operand_positive t.tree h.is.fits in
      after (frame_to LParen s (frame_standing_type t.spot t.tree ts m h.begins h.spells) e)
      (short_then (short_expr Plain room 1 (omega (arith, le, positive, h.sized)) (omega arith)) (short_closes RParen))
      (λ us ws q. convert_form room site t.spot t.tree h.is closed fits (omega (arith, le, h.sized)) us ws (q.1.0, q.1.1, (q.0, q.1.2, q.2)))
      (then_holds (short_closes RParen) (plain_read room inner own Plain 1 rest refl (omega arith)) (λ x m2 w. frame_whole Plain room 1 rest x m2 w.0)
      (λ x m2 w. closes_then RParen (of_tree (convert t.spot t.tree x.tree) t.spot (suc (max t.depth x.depth))) m2 (λ r c. record {
        begins = h.begins;
        spells = (m, rest, m2, h.begins, h.spells, record { spot = s; is = e }, w.0.spells, c);
        fits = record { fits = (h.is.no_expression, h.is.no_pointer, closed, fits, w.0.fits.fits); shallow = omega (arith, h.sized, le, w.0.fits.shallow); binds = omega arith };
        sized = rw (h.sized, w.0.sized) refl;
      })))

  alone_sound : (ts m : List Word) (t : Read TypeTree) → IsTypeOperand room site ts t m → Holds (Reads ts) (Faults ts) (alone room inner site t m)
  alone_sound ts m t h = choose (takes_types site && not (is_counted t.tree)) (pure (of_tree (type_arg t.tree) t.spot t.depth)) refuse m
      (λ e. let b = split_on (takes_types site) (is_counted t.tree) e in good (record {
        begins = h.begins;
        spells = h.spells;
        fits = record { no_expression = h.is.no_expression; fits = plain_fits t.tree b.1 h.is.fits; room = h.alone b.0 b.1 };
        sized = h.sized;
      }))
      (λ e. bad (inr (begun_operand room site t.spot t.tree ts m (frame_standing_type t.spot t.tree ts m h.begins h.spells) h.is (h.short (split_off (takes_types site) (is_counted t.tree) e)))))

  convert_or_sound : (ts m : List Word) (t : Read TypeTree) → IsTypeOperand room site ts t m → t.depth ≤ room → Holds (Reads ts) (Faults ts) (convert_or room inner site t m)
  convert_or_sound ts m t h le = choose (is_counted t.tree) refuse _ m
      (λ e. bad (inr (begun_operand room site t.spot t.tree ts m (frame_standing_type t.spot t.tree ts m h.begins h.spells) h.is (h.short (inr e)))))
      (λ e. mark_holds LParen _ (alone room inner site t) m (λ s rest at. conversion_sound ts m rest t s at h e le) (λ _. alone_sound ts m t h))

  pub behind_type_sound : (ts m : List Word) (t : Read TypeTree) → IsTypeOperand room site ts t m → Holds (Reads ts) (Faults ts) (behind_type room inner site t m)
  unfolding behind_type
  behind_type_sound ts m t h = choose (nat_le t.depth room) _ (alone room inner site t) m
      (λ e. let le = leb-true _ _ e in choose (has_literals t.tree) _ (convert_or room inner site t) m
      (λ l. mark_holds LBrace (λ _. literal_of room inner t) (convert_or room inner site t) m
      (λ s rest at. literal_sound ts m rest t s at h.begins h.spells (literal_fits t.tree l h.is.fits) (unnamed_literal t.tree (is_header (place_at site)) h.is.no_expression) h.sized le
      (omega (arith, h.sized, operand_positive t.tree h.is.fits)))
      (λ _. convert_or_sound ts m t h le))
      (λ _. convert_or_sound ts m t h le))
      (λ _. alone_sound ts m t h)
