-- Operands: literals, names, parentheses, and types.
use Rattle.std.proofs.Common.{◌≡◌, ◌⊎◌, inl, inr, ℕ, suc, ◌≤◌, Bool, true, false, List, ◌∷◌, Option, Some, None, refl, sym, ap, subst, ◌∙◌, arith}
use Rattle.std.specs.Prelude.{nat_le}
use Rattle.std.proofs.lemmas.Bool.{leb-true}
use Rattle.ui_base.specs.declared.value.Spot.{Spot}
use Rattle.ui_scan.specs.declared.kind.TokenKind.TheVariants.{LParen, RParen}
use Rattle.ui_tree.specs.declared.part.Placed.{Placed}
use Rattle.ui_tree.specs.Tree.{TypeTree, parenthesized, Tree, literal, name, paren}
use Rattle.ui_grammar.specs.Word.{Word, ident, lit, mark, Mark, Begins}
use Rattle.ui_grammar.specs.Both.{is_expression}
use Rattle.ui_grammar.specs.Spells.{SpellsType}
use Rattle.ui_grammar.specs.Fits.{plain, is_header, plain_type, type_depth, Fits, FitsType}
use Rattle.ui_grammar.proofs.Frames.{Then}
use Rattle.ui_parse.specs.Reader.{and_then}
use Rattle.ui_parse.proofs.Outcomes.{Holds, good, bad, bind, choose, taken_holds, name_holds, expect_holds}
use Rattle.ui_syntax.specs.declared.site.Site.{Site}
use Rattle.ui_syntax.specs.declared.site.Site.TheVariants.{Header, Plain, Wrapped, Argument}
use Rattle.ui_syntax.specs.declared.site.TypeSite.{TypeSite}
use Rattle.ui_syntax.specs.declared.site.TypeSite.TheVariants as at
use Rattle.ui_syntax.specs.Cover.{Read, only_type, is_counted}
use Rattle.ui_syntax.specs.Types.{Nested, of_type, maybe_type}
use Rattle.ui_syntax.specs.Exprs.{Literal, of_tree, a_literal, takes_types, inner_site, maybe_behind, type_operand, enclose, parenthesized_operand, operand}
use Rattle.ui_syntax.proofs.ByBudget.{Begun, Stops, IsOperandType, FitsAt, TypeForm, IsMaybeRead, type_room, ExprForm, CoverForm, ElemsForm, AreElemsRead, IsSoundAt}
use Rattle.ui_syntax.specs.Read.{place_at}
use Rattle.ui_syntax.proofs.Begun.{Is, short_mark, short_then, short_expr, frame_word, begun_as, begun_whole, begun_stops, behind, before, mark_at}
use Rattle.ui_syntax.proofs.SoundExprsFronts.{Standing, AloneAt, Either, FixedType, fixed_cover, fixed_type}
use Rattle.ui_syntax.proofs.SoundExprsForms.{IsCoverRead, IsCover, cover_is, cover_of}
use Rattle.ui_syntax.proofs.SoundExprsFacts.{Operand, operand_positive, literal_fits, plain_fits, counted_literal}
use Rattle.ui_syntax.proofs.SoundExprsInner.{frame_whole, frame_alone}
use Rattle.ui_syntax.proofs.SoundExprsOperands.{convert_form, literal_form, short_literal, short_converted, unnamed_literal, behind_type_sound}

-- ---- between parentheses

fits_inside : (site : Site) (e : Tree) → Fits e (place_at (inner_site site)) → Fits e plain
fits_inside Header e f = f
fits_inside Plain e f = f
fits_inside Wrapped e f = f
fits_inside Argument e f = f

-- a type in parentheses is an operand
enclosed_operand : (s : Spot) (t : TypeTree) → is_expression t ≡ false → FitsType t plain_type → Operand (parenthesized s t)
enclosed_operand s t e f = record { no_expression = e; no_pointer = refl; fits = inl (refl, f) }

enclosed_short : (site : Site) (room : ℕ) (s : Spot) (t : TypeTree) → type_room (inner_site site) room t → (takes_types site ≡ false) ⊎ (false ≡ true) → type_depth (parenthesized s t) ≤ room
enclosed_short Header room s t h off = h
enclosed_short Plain room s t h off = h
enclosed_short Wrapped room s t h off = h
enclosed_short Argument room s t h (inl off) = absurd cc
enclosed_short Argument room s t h (inr off) = absurd cc

enclosed_alone : (site : Site) (room : ℕ) (s : Spot) (t : TypeTree) → type_room (inner_site site) room t → takes_types site ≡ true → type_room site (suc room) (parenthesized s t)
enclosed_alone Header room s t h on = absurd cc
enclosed_alone Plain room s t h on = absurd cc
enclosed_alone Wrapped room s t h on = omega (arith, h)
enclosed_alone Argument room s t h on = omega (arith, h)

-- "(" and what is between, up to ")"
abbrev Wrapping : Spot → (List Word → List Word → Type 0) → List Word → List Word → Type 0
Wrapping s R = Then (Is (mark LParen s)) (Then R (Mark RParen))

module _ (room : ℕ) (site : Site) where
  abbrev Primary : List Word → List Word → Type 0
  Primary = CoverForm site (suc room) 7

  paren_form : (s : Spot) (us ws : List Word) → Wrapping s (ExprForm (inner_site site) room 1) us ws → Primary us ws
  paren_form s us ws h = let e = h.2.1 in inl (record {
    tree = paren s e.tree;
    spells = (h.0, h.2.0, h.1, e.spells, h.2.2);
    fits = record { fits = fits_inside site e.tree e.fits.fits; shallow = omega (arith, e.fits.shallow); binds = omega arith };
  })

  begins_paren : (s : Spot) (us a : List Word) → us ≡ mark LParen s ∷ a → Begins s us
  begins_paren s us a e = subst (Begins s) (sym e) refl

  -- a type in parentheses, and the conversion behind it
  wrapped_begun : (s : Spot) (rest r : List Word) → 1 ≤ room → Begun (AloneAt Wrapped room) rest r → Begun Primary (mark LParen s ∷ rest) r
  wrapped_begun s rest r le g = begun_as (behind (frame_word (mark LParen s) rest) (before g (short_then (short_mark RParen) (short_converted room site le))))
      (λ us ws h. let t = h.2.1 in
      convert_form room site s (parenthesized s t.tree) (enclosed_operand s t.tree t.fits.no_expression t.fits.fits) refl (refl, t.fits.fits) t.fits.room us ws
      (h.2.2.0, (begins_paren s us h.0 h.1, (h.0, h.2.0, h.1, t.spells, h.2.2.1)), h.2.2.2))

type_begun : (room : ℕ) (site : Site) (s : Spot) (rest r : List Word) → 1 ≤ room → Begun (AloneAt (inner_site site) room) rest r → Begun (CoverForm site (suc room) 7) (mark LParen s ∷ rest) r
type_begun room Header s rest r le g = wrapped_begun room Header s rest r le g
type_begun room Plain s rest r le g = wrapped_begun room Plain s rest r le g
type_begun room Wrapped s rest r le g = wrapped_begun room Wrapped s rest r le g
type_begun room Argument s rest r le g = begun_as (behind (frame_word (mark LParen s) rest) (before g (short_mark RParen)))
    (λ us ws h. let t = h.2.1 in inr (record {
      tree = parenthesized s t.tree;
      spells = (h.0, h.2.0, h.1, t.spells, h.2.2);
      fits = record { no_expression = t.fits.no_expression; fits = (refl, t.fits.fits); room = omega (arith, t.fits.room) };
      closed = refl;
    }))

pub read_either : (s : Site) (b least : ℕ) (ts : List Word) (x : Read Tree) (rest : List Word) (o : Option TypeTree) → IsCover s b least ts x rest o → Either s b least ts rest
read_either s b least ts x rest None h = inl (begun_whole (frame_whole s b least ts x rest h))
read_either s b least ts x rest (Some t) h = inr (begun_whole (frame_alone s b ts t x rest h))

pub stops_either : (s : Site) (b least : ℕ) (ts rest : List Word) → 1 ≤ b → least ≤ 7 → Stops (CoverForm s b least) ts rest → Either s b least ts rest
stops_either s b least ts rest le most (inl e) = inl (begun_stops (short_expr s b least le most) (inl e))
stops_either s b least ts rest le most (inr g) = fixed_cover g

inside_begun : (room : ℕ) (site : Site) (s : Spot) (rest r : List Word) → 1 ≤ room → Either (inner_site site) room 1 rest r → Begun (CoverForm site (suc room) 7) (mark LParen s ∷ rest) r
inside_begun room site s rest r le (inl g) = begun_as (behind (frame_word (mark LParen s) rest) (before g (short_mark RParen))) (paren_form room site s)
inside_begun room site s rest r le (inr g) = type_begun room site s rest r le g

room_alone : (site : Site) (room : ℕ) (t : TypeTree) → type_depth t ≤ room → takes_types site ≡ true → type_room site (suc room) t
room_alone Header room t le on = absurd cc
room_alone Plain room t le on = absurd cc
room_alone Wrapped room t le on = omega (arith, le)
room_alone Argument room t le on = omega (arith, le)

module _ (room : ℕ) (inner : Nested) (own : IsSoundAt room inner.level inner.maybe_type)
    (own_braces : (ts : List Word) → Holds (AreElemsRead room ts) (Stops (ElemsForm room) ts) (inner.braces ts))
    (type_sound : (p : TypeSite) (ts : List Word) → Holds (IsMaybeRead p (suc room) ts) (Stops (TypeForm p (suc room)) ts) (maybe_type room inner p ts)) where
  abbrev Reads : Site → List Word → Read Tree → List Word → Type 0
  Reads site ts = IsCoverRead site (suc room) 7 ts

  abbrev Faults : Site → List Word → List Word → Type 0
  Faults site ts = Stops (CoverForm site (suc room) 7) ts

  enclose_sound : (site : Site) (s : Spot) (rest : List Word) (x : Read Tree) (m r : List Word) → Mark RParen m r → (o : Option TypeTree) → IsCover (inner_site site) room 1 rest x m o
      → Holds (Reads site (mark LParen s ∷ rest)) (Faults site (mark LParen s ∷ rest)) (enclose room inner site s x o r)
  enclose_sound site s rest x m r mk None h = good (record {
    begins = refl;
    spells = (rest, m, refl, h.spells, mk);
    fits = record { fits = fits_inside site x.tree h.fits.fits; shallow = omega (arith, h.fits.shallow); binds = omega arith };
    sized = rw (h.sized) refl;
  })
  enclose_sound site s rest x m r mk (Some t) h = behind_type_sound room inner own own_braces site (mark LParen s ∷ rest) r (of_type (parenthesized s t) s (suc x.depth)) (record {
    begins = refl;
    spells = (rest, m, refl, h.spells, mk);
    is = enclosed_operand s t h.fits.no_expression h.fits.fits;
    sized = rw (h.sized) refl;
    no_results = λ c. absurd cc;
    short = enclosed_short site room s t h.fits.room;
    alone = λ on off. enclosed_alone site room s t h.fits.room on;
  })

  parenthesized_sound : (site : Site) (s : Spot) (rest : List Word) → 1 ≤ room → Holds (Reads site (mark LParen s ∷ rest)) (Faults site (mark LParen s ∷ rest)) (parenthesized_operand room inner site s rest)
  unfolding parenthesized_operand
  parenthesized_sound site s rest le = bind (own.expr (inner_site site) 1 rest (omega arith))
      (λ x m h. let c = cover_is (inner_site site) room 1 rest x m (only_type x.tree) refl (cover_of h) in
      bind (expect_holds {Q = λ _ r. Mark RParen m r} {F = Faults site (mark LParen s ∷ rest)} RParen m (λ p r e. record { spot = p; is = e })
      (λ _. inr (inside_begun room site s rest m le (read_either (inner_site site) room 1 rest x m (only_type x.tree) c))))
      (λ p r mk. enclose_sound site s rest x m r mk (only_type x.tree) c)
      (λ r g. g))
      (λ r g. inr (inside_begun room site s rest r le (stops_either (inner_site site) room 1 rest r le (omega arith) g)))

  -- ---- types

  operand_is : (t : TypeTree) → IsOperandType t → Operand t
  operand_is t h = record { no_expression = h.no_expression; no_pointer = h.no_pointer; fits = h.fits }

  literal_begun : (site : Site) (t : TypeTree) (s : Spot) (ts r : List Word) → Operand t → is_counted t ≡ true → type_depth t ≤ room → Begun (Standing s (SpellsType t)) ts r → Begun (CoverForm site (suc room) 7) ts r
  literal_begun site t s ts r is e le g = begun_as (before g (short_literal room site (omega (arith, le, operand_positive t is.fits))))
      (literal_form room site s t (literal_fits t (counted_literal t e) is.fits) (unnamed_literal t (is_header (place_at site)) is.no_expression) le)

  short_begun : (site : Site) (ts r : List Word) (f : FixedType at.Operand room ts r) (b : Bool) → is_counted f.tree ≡ b → Begun (CoverForm site (suc room) 7) ts r
  short_begun site ts r f true e = literal_begun site f.tree f.spot ts r (operand_is f.tree f.fits.0) e f.fits.1 f.begun
  short_begun site ts r f false e = let is = operand_is f.tree f.fits.0 in
      begun_as (before f.begun (short_converted room site (omega (arith, f.fits.1, operand_positive f.tree is.fits)))) (convert_form room site f.spot f.tree is f.closed (plain_fits f.tree e is.fits) f.fits.1)

  short_stops : (site : Site) (ts r : List Word) → Stops (TypeForm at.Operand room) ts r → Stops (CoverForm site (suc room) 7) ts r
  short_stops site ts r (inl e) = inl e
  short_stops site ts r (inr g) = let f = fixed_type g in inr (short_begun site ts r f (is_counted f.tree) refl)

  short_type : (site : Site) (ts : List Word) → Holds (Reads site ts) (Faults site ts) (and_then (inner.maybe_type at.Operand ts) (maybe_behind room inner site))
  short_type site ts = bind (own.type at.Operand ts) each (short_stops site ts)
    where
      each : (x : Option (Read TypeTree)) (r : List Word) → IsMaybeRead at.Operand room ts x r → Holds (Reads site ts) (Faults site ts) (maybe_behind room inner site x r)
      each None r e = bad (inl e)
      each (Some t) r h = behind_type_sound room inner own own_braces site ts r t (record {
        begins = h.begins;
        spells = h.spells;
        is = operand_is t.tree h.fits.0;
        sized = h.sized;
        no_results = h.no_results;
        short = λ _. h.fits.1;
        alone = λ on off. room_alone site room t.tree h.fits.1 on;
      })

  long_begun : (ts r : List Word) (f : FixedType at.Argument (suc room) ts r) (b : Bool) → is_counted f.tree ≡ b → Begun (CoverForm Argument (suc room) 7) ts r
  long_begun ts r f true e = literal_begun Argument f.tree f.spot ts r (operand_is f.tree f.fits.0) e (omega (arith, f.fits.2 e)) f.begun
  long_begun ts r f false e = begun_as f.begun (λ us ws q. inr (record {
    tree = f.tree;
    spells = q.1;
    fits = record { no_expression = f.fits.0.no_expression; fits = plain_fits f.tree e f.fits.0.fits; room = f.fits.1 };
    closed = f.closed;
  }))

  long_stops : (ts r : List Word) → Stops (TypeForm at.Argument (suc room)) ts r → Stops (CoverForm Argument (suc room) 7) ts r
  long_stops ts r (inl e) = inl e
  long_stops ts r (inr g) = let f = fixed_type g in inr (long_begun ts r f (is_counted f.tree) refl)

  long_type : (ts : List Word) → Holds (Reads Argument ts) (Faults Argument ts) (and_then (maybe_type room inner at.Argument ts) (maybe_behind room inner Argument))
  long_type ts = bind (type_sound at.Argument ts) each (long_stops ts)
    where
      counted_short : (t : TypeTree) → FitsAt at.Argument (suc room) t → (takes_types Argument ≡ false) ⊎ (is_counted t ≡ true) → type_depth t ≤ room
      counted_short t f (inl off) = absurd cc
      counted_short t f (inr c) = omega (arith, f.2 c)

      each : (x : Option (Read TypeTree)) (r : List Word) → IsMaybeRead at.Argument (suc room) ts x r → Holds (Reads Argument ts) (Faults Argument ts) (maybe_behind room inner Argument x r)
      each None r e = bad (inl e)
      each (Some t) r h = behind_type_sound room inner own own_braces Argument ts r t (record {
        begins = h.begins;
        spells = h.spells;
        is = operand_is t.tree h.fits.0;
        sized = h.sized;
        no_results = h.no_results;
        short = counted_short t.tree h.fits;
        alone = λ on off. h.fits.1;
      })

  type_operand_sound : (site : Site) (ts : List Word) → Holds (Reads site ts) (Faults site ts) (type_operand room inner site ts)
  type_operand_sound Header ts = short_type Header ts
  type_operand_sound Plain ts = short_type Plain ts
  type_operand_sound Wrapped ts = short_type Wrapped ts
  type_operand_sound Argument ts = long_type ts

  -- ---- operands

  literal_is : (w : Word) (l : Literal) → a_literal w ≡ Some l → w ≡ lit l.kind l.spot l.value
  literal_is (ident p) l e = absurd cc
  literal_is (lit k s v) l e = let same : record { kind = k; spot = s; value = v } ≡ l = cc in ap (λ (z : Literal). lit z.kind z.spot z.value) same
  literal_is (mark k s) l e = absurd cc

  read_literal : (site : Site) (l : Literal) (rest : List Word) → Reads site (lit l.kind l.spot l.value ∷ rest) (of_tree (literal l.spot l.kind l.value) l.spot 1) rest
  read_literal site l rest = record { begins = refl; spells = refl; fits = record { fits = tt; shallow = omega arith; binds = omega arith }; sized = refl }

  read_name : (site : Site) (p : Placed) (rest : List Word) → Reads site (ident p ∷ rest) (of_tree (name p) p.spot 1) rest
  read_name site p rest = record { begins = refl; spells = refl; fits = record { fits = tt; shallow = omega arith; binds = omega arith }; sized = refl }

  pub operand_sound : (site : Site) (ts : List Word) → Holds (Reads site ts) (Faults site ts) (operand room inner site ts)
  unfolding operand
  operand_sound site ts = taken_holds a_literal _ _ ts
      (λ l w rest e h. good (subst (λ (v : List Word). Reads site v (of_tree (literal l.spot l.kind l.value) l.spot 1) rest) (sym (e ∙ ap (λ (u : Word). u ∷ rest) (literal_is w l h))) (read_literal site l rest)))
      (λ _. name_holds _ _ ts
      (λ p rest e. good (subst (λ (v : List Word). Reads site v (of_tree (name p) p.spot 1) rest) (sym e) (read_name site p rest)))
      (λ _. choose (nat_le 1 room) _ (type_operand room inner site) ts
      (λ le. mark_at (λ v. Reads site v) (λ v. Faults site v) LParen (λ s. parenthesized_operand room inner site s) (type_operand room inner site) ts
      (λ s rest. parenthesized_sound site s rest (leb-true _ _ le)) (λ _. type_operand_sound site ts))
      (λ _. type_operand_sound site ts)))
