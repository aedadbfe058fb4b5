-- Expressions: operands with operators.
use Rattle.std.proofs.Common.{◌≡◌, ◌⊎◌, inl, inr, ℕ, zero, suc, ◌+◌, ◌≤◌, max, false, List, [], ◌∷◌, Option, Some, None, refl, sym, ap, subst, ◌∙◌, arith}
use Rattle.std.specs.Prelude.{◌&&◌, not, nat_le}
use Rattle.std.proofs.lemmas.Bool.{leb-true, leb-false}
use Rattle.ui_base.specs.declared.value.Spot.{Spot}
use Rattle.ui_base.specs.declared.kind.BinOp.{BinOp}
use Rattle.ui_scan.specs.declared.kind.TokenKind.TheVariants.{Mul}
use Rattle.ui_tree.specs.declared.part.PrefixOp.{PrefixOp}
use Rattle.ui_tree.specs.declared.part.PrefixOp.TheVariants.{Plus, Minus, Not, Flip, Deref, Address}
use Rattle.ui_tree.specs.Tree.{TypeTree, pointer, Tree, unary, binary}
use Rattle.ui_grammar.specs.Word.{Word, mark, Mark, Begins}
use Rattle.ui_grammar.specs.Operator.{mark_of, prefix_mark_of, level_of}
use Rattle.ui_grammar.specs.Spells.{Spells}
use Rattle.ui_grammar.specs.Fits.{within, level, depth, Fits}
use Rattle.ui_grammar.proofs.Frames.{Then}
use Rattle.ui_parse.specs.Reader.{pure, first}
use Rattle.ui_parse.proofs.Outcomes.{Holds, good, bind, mono, choose, taken_holds}
use Rattle.ui_parse.proofs.Steady.{Steady}
use Rattle.ui_syntax.specs.declared.site.Site.{Site}
use Rattle.ui_syntax.specs.declared.site.Site.TheVariants.{Header, Plain, Wrapped, Argument}
use Rattle.ui_syntax.specs.declared.site.TypeSite.{TypeSite}
use Rattle.ui_syntax.specs.Cover.{Read, only_type}
use Rattle.ui_syntax.specs.Types.{Nested, a_type, maybe_type}
use Rattle.ui_syntax.specs.Exprs.{Prefix, a_prefix, an_operator, is_some, operand_site, prefix_site, takes_types, Arguments, primary, prefixed_by, prefixed, unary_expr, binary_of, operations, level as read_level}
use Rattle.ui_syntax.specs.Exprs as exprs
use Rattle.ui_syntax.proofs.ByBudget.{Stops, TypeForm, IsMaybeRead, FitsExpr, type_room, ExprForm, CoverForm, FitsCover, Ends, IsExprRead, ElemsForm, AreElemsRead, IsSoundAt}
use Rattle.ui_syntax.specs.Read.{place_at}
use Rattle.ui_syntax.proofs.Begun.{Is, short_expr, begun_as, begun_stops, stops_as, short_as, frame_word, behind}
use Rattle.ui_syntax.proofs.SoundExprsFronts.{Standing, frame_standing, frame_to}
use Rattle.ui_syntax.proofs.SoundExprsForms.{IsCoverRead, IsCover, cover_is, cover_of, whole_cover, level_le, fits_within, depth_at}
use Rattle.ui_syntax.proofs.SoundExprsInner.{no_room, plain_read}
use Rattle.ui_syntax.proofs.SoundExprsSuffixes.{goes_on, primary_sound}
use Rattle.ui_syntax.proofs.SoundExprsOperators.{prefix_is, operator_is, tight_word}

-- ---- with operators that bind less tightly

looser_fits : (s : Site) (b most least : ℕ) (e : Tree) (o : Option TypeTree) → least ≤ most → FitsCover s b most e o → FitsCover s b least e o
looser_fits s b most least e None le h = record { fits = h.fits; shallow = h.shallow; binds = omega (arith, le, h.binds) }
looser_fits s b most least e (Some t) le h = h

looser : (s : Site) (b most least : ℕ) (ts : List Word) (x : Read Tree) (rest : List Word) → least ≤ most → IsCoverRead s b most ts x rest → IsCoverRead s b least ts x rest
looser s b most least ts x rest le h = record { begins = h.begins; spells = h.spells; fits = looser_fits s b most least x.tree (only_type x.tree) le h.fits; sized = h.sized }

looser_form : (s : Site) (b most least : ℕ) → least ≤ most → (us ws : List Word) → CoverForm s b most us ws → CoverForm s b least us ws
looser_form s b most least le us ws (inl h) = inl (record { tree = h.tree; spells = h.spells; fits = record { fits = h.fits.fits; shallow = h.fits.shallow; binds = omega (arith, le, h.fits.binds) } })
looser_form s b most least le us ws (inr h) = inr h

-- ---- sites of operands

operand_place : (s : Site) (e : Tree) → Fits e (place_at (operand_site s)) → Fits e (within (place_at s))
operand_place Header e f = f
operand_place Plain e f = f
operand_place Wrapped e f = f
operand_place Argument e f = f

pub operand_takes : (s : Site) → takes_types (operand_site s) ≡ false
operand_takes Header = refl
operand_takes Plain = refl
operand_takes Wrapped = refl
operand_takes Argument = refl

prefix_place : (o : PrefixOp) (s : Site) (e : Tree) → Fits e (place_at (prefix_site o s)) → Fits e (within (place_at s))
prefix_place Deref s e f = fits_within s e f
prefix_place Plus s e f = operand_place s e f
prefix_place Minus s e f = operand_place s e f
prefix_place Not s e f = operand_place s e f
prefix_place Flip s e f = operand_place s e f
prefix_place Address s e f = operand_place s e f

pointer_room : (s : Site) (b : ℕ) (p : Spot) (t : TypeTree) → type_room s b t → type_room s (suc b) (pointer p t)
pointer_room Header b p t h = h
pointer_room Plain b p t h = h
pointer_room Wrapped b p t h = omega (arith, h)
pointer_room Argument b p t h = omega (arith, h)

-- a type stands behind `*` alone
prefix_room : (o : PrefixOp) (s : Site) (b : ℕ) (p : Spot) (t : TypeTree) → type_room (prefix_site o s) b t → (o ≡ Deref) × type_room s (suc b) (pointer p t)
prefix_room Deref s b p t h = (refl, pointer_room s b p t h)
prefix_room Plus s b p t h = absurd (no_room (operand_site s) b t (operand_takes s) h)
prefix_room Minus s b p t h = absurd (no_room (operand_site s) b t (operand_takes s) h)
prefix_room Not s b p t h = absurd (no_room (operand_site s) b t (operand_takes s) h)
prefix_room Flip s b p t h = absurd (no_room (operand_site s) b t (operand_takes s) h)
prefix_room Address s b p t h = absurd (no_room (operand_site s) b t (operand_takes s) h)

pointer_words : (o : PrefixOp) (s : Spot) (us a : List Word) → o ≡ Deref → us ≡ mark (prefix_mark_of o) s ∷ a → us ≡ mark Mul s ∷ a
pointer_words o s us a e h = h ∙ ap (λ (z : PrefixOp). mark (prefix_mark_of z) s ∷ a) e

begins_mark : (w : Word) (s : Spot) (us a : List Word) → us ≡ w ∷ a → Begins s (w ∷ a) → Begins s us
begins_mark w s us a e b = subst (Begins s) (sym e) b

module _ (room : ℕ) (inner : Nested) (own : IsSoundAt room inner.level inner.maybe_type)
    (own_braces : (ts : List Word) → Holds (AreElemsRead room ts) (Stops (ElemsForm room) ts) (inner.braces ts))
    (type_sound : (p : TypeSite) (ts : List Word) → Holds (IsMaybeRead p (suc room) ts) (Stops (TypeForm p (suc room)) ts) (maybe_type room inner p ts))
    (type_steady : Steady (a_type room inner)) (argument_steady : (l : Arguments) → Steady (exprs.argument room inner l)) (site : Site) where
  -- ---- unary operators

  prefix_form : (o : Prefix) (us ws : List Word) → Then (Is (mark (prefix_mark_of o.op) o.spot)) (CoverForm (prefix_site o.op site) room 6) us ws → CoverForm site (suc room) 6 us ws
  prefix_form o us ws (a, e, inl h) = inl (record {
    tree = unary o.spot o.op h.tree;
    spells = (a, e, h.spells);
    fits = record { fits = (h.fits.binds, prefix_place o.op site h.tree h.fits.fits); shallow = omega (arith, h.fits.shallow); binds = omega arith };
  })
  prefix_form o us ws (a, e, inr h) = let k = prefix_room o.op site room o.spot h.tree h.fits.room in inr (record {
    tree = pointer o.spot h.tree;
    spells = (a, pointer_words o.op o.spot us a k.0 e, h.spells);
    fits = record { no_expression = h.fits.no_expression; fits = (refl, h.fits.fits); room = k.1 };
    closed = h.closed;
  })

  prefixed_good : (o : Prefix) (rest : List Word) (x : Read Tree) (r : List Word) (c : Option TypeTree) → IsCover (prefix_site o.op site) room 6 rest x r c
      → IsCoverRead site (suc room) 6 (mark (prefix_mark_of o.op) o.spot ∷ rest) (prefixed_by room inner o x c) r
  prefixed_good o rest x r None h = record {
    begins = refl;
    spells = (rest, refl, h.spells);
    fits = record { fits = (h.fits.binds, prefix_place o.op site x.tree h.fits.fits); shallow = omega (arith, h.fits.shallow); binds = omega arith };
    sized = rw (h.sized) refl;
  }
  prefixed_good o rest x r (Some t) h = let k = prefix_room o.op site room o.spot t h.fits.room in record {
    begins = refl;
    spells = (rest, pointer_words o.op o.spot (mark (prefix_mark_of o.op) o.spot ∷ rest) rest k.0 refl, h.spells);
    fits = record { no_expression = h.fits.no_expression; fits = (refl, h.fits.fits); room = k.1 };
    sized = rw (h.sized) refl;
  }

  prefixed_sound : (o : Prefix) (rest : List Word) → 1 ≤ room
      → Holds (IsCoverRead site (suc room) 6 (mark (prefix_mark_of o.op) o.spot ∷ rest)) (Stops (CoverForm site (suc room) 6) (mark (prefix_mark_of o.op) o.spot ∷ rest)) (prefixed room inner site o rest)
  unfolding prefixed
  prefixed_sound o rest le = bind (own.expr (prefix_site o.op site) 6 rest (omega arith))
      (λ x r h. good (prefixed_good o rest x r (only_type x.tree) (cover_is (prefix_site o.op site) room 6 rest x r (only_type x.tree) refl (cover_of h))))
      (λ r g. inr (begun_as (behind (frame_word (mark (prefix_mark_of o.op) o.spot) rest) (begun_stops (short_as (short_expr (prefix_site o.op site) room 6 le (omega arith)) (λ us ws q. inl q)) g)) (prefix_form o)))

  unary_sound : (ts : List Word) → Holds (IsCoverRead site (suc room) 6 ts) (Stops (CoverForm site (suc room) 6) ts) (unary_expr room inner site ts)
  unfolding unary_expr
  unary_sound ts = choose (nat_le 1 room) _ (primary room inner site) ts
      (λ le. taken_holds a_prefix _ _ ts
      (λ o w rest e h. subst (λ (v : List Word). Holds (IsCoverRead site (suc room) 6 v) (Stops (CoverForm site (suc room) 6) v) (prefixed room inner site o rest))
      (sym (e ∙ ap (λ (u : Word). u ∷ rest) (prefix_is w o h))) (prefixed_sound o rest (leb-true _ _ le)))
      (λ _. operand))
      (λ _. operand)
    where
      operand : Holds (IsCoverRead site (suc room) 6 ts) (Stops (CoverForm site (suc room) 6) ts) (primary room inner site ts)
      operand = mono (primary_sound room inner own own_braces type_sound type_steady argument_steady site ts)
          (λ x r h. looser site (suc room) 7 6 ts x r (omega arith) h) (λ r g. stops_as g (looser_form site (suc room) 7 6 (omega arith)))

  -- ---- binary operators

  module _ (least : ℕ) (ts : List Word) where
    abbrev Reads : Read Tree → List Word → Type 0
    Reads = IsExprRead site (suc room) least ts

    abbrev Faults : List Word → Type 0
    Faults = Stops (CoverForm site (suc room) least) ts

    -- an operator that comes next binds no tighter, unless it is too deep
    abbrev Tight : Read Tree → List Word → Type 0
    Tight l m = (o : BinOp) → first (an_operator least) m ≡ Some o → l.depth ≤ room → level_of o ≤ level l.tree

    tight_first : (k : ℕ) (m : List Word) (o : BinOp) → first (an_operator least) m ≡ Some o → first (an_operator (suc k)) m ≡ None → level_of o ≤ k
    tight_first k [] o h g = absurd cc
    tight_first k (w ∷ m) o h g = tight_word least k w o h g

    tight_next : (k : ℕ) (m : List Word) (o : BinOp) (d n : ℕ) → (first (an_operator (suc k)) m ≡ None) ⊎ (room ≤ d) → first (an_operator least) m ≡ Some o → suc (max n d) ≤ room → level_of o ≤ k
    tight_next k m o d n (inl none) h le = tight_first k m o h none
    tight_next k m o d n (inr deep) h le = absurd (omega arith)

    done : (l : Read Tree) (m : List Word) → IsCoverRead site (suc room) least ts l m → (only_type l.tree ≡ None → Ends (suc room) least l m) → Reads l m
    done l m h ends = record { begins = h.begins; spells = h.spells; fits = h.fits; sized = h.sized; ends = ends }

    binary_form : (o : BinOp) (l : Read Tree) → FitsExpr site (suc room) least l.tree → level_of o ≤ level l.tree → least ≤ level_of o → depth l.tree ≤ room
        → (us ws : List Word) → Then (Then (Standing l.spot (Spells l.tree)) (Mark (mark_of o))) (ExprForm (operand_site site) room (suc (level_of o))) us ws → CoverForm site (suc room) least us ws
    binary_form o l fits tight binds le us ws q = let r = q.2 in inl (record {
      tree = binary l.spot o l.tree r.tree;
      spells = (q.1.0, q.0, q.1.1.0, q.1.1.1, q.1.2, r.spells);
      fits = record { fits = (tight, r.fits.binds, fits_within site l.tree fits.fits, operand_place site r.tree r.fits.fits); shallow = omega (arith, le, r.fits.shallow); binds = binds };
    })

    stops_here : (o : Option TypeTree) (k : ℕ) → (not (is_some o) && nat_le k room) ≡ false → o ≡ None → suc room ≤ k
    stops_here None k e h = omega (arith, leb-false _ _ e)
    stops_here (Some t) k e h = absurd cc

    operations_sound : (n : ℕ) (l : Read Tree) (m : List Word) → IsCoverRead site (suc room) least ts l m → suc room ≤ n + l.depth → (only_type l.tree ≡ None → Tight l m) → Holds Reads Faults (operations room inner site least n l m)
    unfolding operations
    operations_sound zero l m h fuel tight = good (done l m h (λ _. inr (omega (arith, fuel))))
    operations_sound (suc n) l m h fuel tight = choose (not (is_some (only_type l.tree)) && nat_le l.depth room) _ (pure l) m
        (λ e.
        let g = goes_on (only_type l.tree) l.depth room e in
        let w = cover_is site (suc room) least ts l m None g.0 h in
        taken_holds (an_operator least) _ (pure l) m
        (λ o word rest at is.
        let q = operator_is least word o is in
        let at_mark : m ≡ mark (mark_of o) q.spot ∷ rest = at ∙ ap (λ (u : Word). u ∷ rest) q.is in
        let so = tight g.0 o (ap (first (an_operator least)) at ∙ is) g.1 in
        bind (plain_read room inner own (operand_site site) (suc (level_of o)) rest (operand_takes site) (level_le o))
        (λ r a k. operations_sound n (binary_of room inner o l r) a
        (whole_cover site (suc room) least ts (binary_of room inner o l r) a (record {
          begins = w.begins;
          spells = (m, rest, w.begins, w.spells, record { spot = q.spot; is = at_mark }, k.0.spells);
          fits = record { fits = (so, k.0.fits.binds, fits_within site l.tree w.fits.fits, operand_place site r.tree k.0.fits.fits); shallow = omega (arith, w.sized, g.1, k.0.fits.shallow); binds = q.binds };
          sized = rw (w.sized, k.0.sized) refl;
        }))
        (omega (arith, fuel))
        (λ _ p next le. tight_next (level_of o) a p r.depth l.depth k.1 next le))
        (λ r k. inr (begun_as (behind (frame_to (mark_of o) q.spot (frame_standing l.spot l.tree ts m w.begins w.spells) at_mark)
        (begun_stops (short_expr (operand_site site) room (suc (level_of o)) (omega (arith, g.1, w.sized, depth_at site l.tree w.fits.fits)) (omega (arith, level_le o))) k))
        (binary_form o l w.fits so q.binds (omega (arith, g.1, w.sized))))))
        (λ none. good (done l m h (λ _. inl none))))
        (λ e. good (done l m h (λ only. inr (stops_here (only_type l.tree) l.depth e only))))

    unary_tight : (l : Read Tree) (m : List Word) → IsCoverRead site (suc room) 6 ts l m → only_type l.tree ≡ None → Tight l m
    unary_tight l m h only o at le = omega (arith, level_le o, (cover_is site (suc room) 6 ts l m None only h).fits.binds)

    pub level_sound : least ≤ 6 → Holds Reads Faults (read_level room inner site least ts)
    unfolding read_level
    level_sound le = bind (unary_sound ts)
        (λ l m h. operations_sound (suc (suc room)) l m (looser site (suc room) 6 least ts l m le h) (omega arith) (unary_tight l m h))
        (λ r g. stops_as g (looser_form site (suc room) 6 least le))
