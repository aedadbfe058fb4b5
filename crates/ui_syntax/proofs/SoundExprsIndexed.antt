-- What follows an operand between brackets, and behind a dot.
use Rattle.std.proofs.Common.{◌≡◌, ◌⊎◌, inl, inr, ℕ, suc, max, ◌≤◌, List, ◌∷◌, refl, arith}
use Rattle.ui_base.specs.declared.value.Spot.{Spot}
use Rattle.ui_scan.specs.declared.kind.TokenKind.{TokenKind}
use Rattle.ui_scan.specs.declared.kind.TokenKind.TheVariants.{LParen, RParen, LBracket, RBracket, Period, Colon}
use Rattle.ui_tree.specs.declared.part.Placed.{Placed}
use Rattle.ui_tree.specs.Tree.{Types, Tree, instance, selector, assert, index, sliced, MaybeTree, absent, given}
use Rattle.ui_grammar.specs.Word.{Word, mark, Mark, Named}
use Rattle.ui_grammar.specs.Spells.{Spells, SpellsMaybe, SpellsInstance}
use Rattle.ui_grammar.specs.Fits.{within, plain, plain_type, level, depth, maybe_depth, types_depth, Fits, FitsMaybe, FitsTypes}
use Rattle.ui_grammar.proofs.Frames.{Spelling, Framed, Then, next, frame_mark}
use Rattle.ui_parse.specs.Reader.{and_then, pure, expect}
use Rattle.ui_parse.proofs.Outcomes.{Holds, good, bind, mark_holds, name_holds, expect_holds}
use Rattle.ui_syntax.specs.declared.site.Site.{Site}
use Rattle.ui_syntax.specs.declared.site.Site.TheVariants.{Plain, Argument}
use Rattle.ui_syntax.specs.declared.site.TypeSite.TheVariants as at
use Rattle.ui_syntax.specs.Cover.{Read}
use Rattle.ui_syntax.specs.Types.{Nested}
use Rattle.ui_syntax.specs.Exprs.{of_tree, selected, asserted, slice_of, second_bound, bounds}
use Rattle.ui_syntax.proofs.ByBudget.{Stops, ExprForm, IsSoundAt}
use Rattle.ui_syntax.specs.Read.{place_at}
use Rattle.ui_syntax.proofs.Begun.{Short, short_as, short_mark, short_then, short_expr, short_open, then_holds, faults, expect_then, TypeAt, open_form, frame_read}
use Rattle.ui_syntax.proofs.SoundExprsFronts.{Standing, frame_standing, frame_to, after}
use Rattle.ui_syntax.proofs.SoundExprsForms.{IsWhole, level_full, fits_within, depth_at}
use Rattle.ui_syntax.proofs.SoundExprsInner.{frame_whole, plain_read, type_read}

-- the mark that ends a form
pub mark_end : {A : Type 0} {Q : A → List Word → Type 0} (k : TokenKind) (a : A) (ws : List Word) → ((r : List Word) → Mark k ws r → Q a r) → Holds Q (Stops (Mark k) ws) (and_then (expect k ws) (λ _. pure a))
mark_end {Q = Q} k a ws on = bind (expect_holds {Q = λ s r. Mark k ws r} {F = Stops (Mark k) ws} k ws (λ s r e. record { spot = s; is = e }) (λ _. inl refl)) (λ s r m. good (on r m)) (λ r h. h)

module _ (room : ℕ) (inner : Nested) (own : IsSoundAt room inner.level inner.maybe_type) (site : Site) where
  abbrev pub Reads : List Word → Read Tree → List Word → Type 0
  Reads ts = IsWhole site (suc room) 7 ts

  abbrev pub Primary : Spelling
  Primary = ExprForm site (suc room) 7

  -- an operand with room for a suffix
  pub record IsOperand (ts : List Word) (f : Read Tree) (m : List Word) : Type 0 where
    pub read : IsWhole site (suc room) 7 ts f m
    pub full : level f.tree ≡ 7
    pub fits : Fits f.tree (within (place_at site))
    pub shallow : depth f.tree ≤ room
    pub positive : 1 ≤ room

  pub is_operand : (ts : List Word) (f : Read Tree) (m : List Word) → Reads ts f m → f.depth ≤ room → IsOperand ts f m
  is_operand ts f m h le = record {
    read = h;
    full = level_full f.tree h.fits.binds;
    fits = fits_within site f.tree h.fits.fits;
    shallow = omega (arith, h.sized, le);
    positive = omega (arith, h.sized, le, depth_at site f.tree h.fits.fits);
  }

  module _ (ts : List Word) (f : Read Tree) (m : List Word) (is : IsOperand ts f m) where
    abbrev pub Operand : Spelling
    Operand = Standing f.spot (Spells f.tree)

    pub frame_operand : Framed Operand ts m
    frame_operand = frame_standing f.spot f.tree ts m is.read.begins is.read.spells

    -- ---- behind a dot

    selector_form : (us ws : List Word) → Then (Then Operand (Mark Period)) (λ vs rs. (p : Placed) × Named p vs rs) us ws → Primary us ws
    selector_form us ws q = record {
      tree = selector f.spot f.tree q.2.0;
      spells = (q.1.0, q.0, q.1.1.0, q.1.1.1, q.1.2, q.2.1);
      fits = record { fits = (is.full, is.fits); shallow = omega (arith, is.shallow); binds = omega arith };
    }

    assert_form : (us ws : List Word) → Then (Then Operand (Mark Period)) (Then (Mark LParen) (Then (TypeAt at.Plain room) (Mark RParen))) us ws → Primary us ws
    assert_form us ws q = let t = q.2.2.1 in record {
      tree = assert f.spot f.tree t.tree;
      spells = (q.1.0, q.0, q.2.0, q.2.2.0, q.1.1.0, q.1.1.1, q.1.2, q.2.1, t.spells, q.2.2.2);
      fits = record { fits = (is.full, is.fits, t.fits.0); shallow = omega (arith, is.shallow, t.fits.1); binds = omega arith };
    }

    asserted_sound : (rest : List Word) (s : Spot) → m ≡ mark Period s ∷ rest → Holds (Reads ts) (Stops Primary ts) (asserted room inner f rest)
    asserted_sound rest s e = after (frame_to Period s frame_operand e) (short_then (short_mark LParen) (short_then (short_open room is.positive) (short_mark RParen))) assert_form
        (expect_then LParen rest (short_then (short_open room is.positive) (short_mark RParen)) (λ p a e2.
        then_holds (short_mark RParen) (faults (type_read room inner own a) open_form) (λ t b h. frame_read at.Plain room a t b h)
        (λ t b h. mark_end RParen (of_tree (assert f.spot f.tree t.tree) f.spot (suc (max f.depth t.depth))) b (λ r mk. record {
          begins = is.read.begins;
          spells = (m, rest, a, b, is.read.begins, is.read.spells, record { spot = s; is = e }, record { spot = p; is = e2 }, h.spells, mk);
          fits = record { fits = (is.full, is.fits, h.fits.0); shallow = omega (arith, is.shallow, h.fits.1); binds = omega arith };
          sized = rw (is.read.sized, h.sized) refl;
        }))))

    pub selected_sound : (rest : List Word) (s : Spot) → m ≡ mark Period s ∷ rest → Holds (Reads ts) (Stops Primary ts) (selected room inner f rest)
    unfolding selected
    selected_sound rest s e = name_holds _ (asserted room inner f) rest
        (λ p r e2. good (record {
          begins = is.read.begins;
          spells = (m, rest, is.read.begins, is.read.spells, record { spot = s; is = e }, e2);
          fits = record { fits = (is.full, is.fits); shallow = omega (arith, is.shallow); binds = omega arith };
          sized = rw (is.read.sized) refl;
        }))
        (λ _. asserted_sound rest s e)

    -- ---- between brackets

    -- what goes on with the operand behind the bracket
    abbrev pub Follows : Spelling
    Follows vs ws = (us a : List Word) → Operand us a → Mark LBracket a vs → Primary us ws

    index_form : (e : Tree) (us a vs ws c : List Word) → Fits e plain → depth e ≤ room → Operand us a → Mark LBracket a vs → Spells e vs c → Mark RBracket c ws → Primary us ws
    index_form e us a vs ws c fits le o mk h close = record {
      tree = index f.spot f.tree e;
      spells = (a, vs, c, o.0, o.1, mk, h, close);
      fits = record { fits = (is.full, is.fits, fits); shallow = omega (arith, is.shallow, le); binds = omega arith };
    }

    pub index_follows : (vs ws : List Word) → Then (ExprForm Argument room 1) (Mark RBracket) vs ws → Follows vs ws
    index_follows vs ws q us a o mk = index_form q.1.tree us a vs ws q.0 q.1.fits.fits q.1.fits.shallow o mk q.1.spells q.2

    pub instance_follows : (ks : Types) → FitsTypes ks plain_type → types_depth ks ≤ room → (vs ws : List Word) → SpellsInstance ks vs ws → Follows vs ws
    instance_follows ks fits le vs ws h us a o mk = record {
      tree = instance f.spot f.tree ks;
      spells = (a, vs, o.0, o.1, mk, h);
      fits = record { fits = (is.full, is.fits, fits); shallow = omega (arith, is.shallow, le); binds = omega arith };
    }

    pub short_follows : Short Follows
    short_follows = short_as (short_then (short_expr Argument room 1 is.positive (omega arith)) (short_mark RBracket)) index_follows

    -- ---- bounds of a slice

    module _ (rest : List Word) (s : Spot) (at_bracket : m ≡ mark LBracket s ∷ rest) (low : MaybeTree) (i : ℕ) (c d : List Word) (p : Spot)
        (fl : Framed (SpellsMaybe low) rest c) (hl : SpellsMaybe low rest c) (low_fits : FitsMaybe low) (low_sized : maybe_depth low ≡ i) (low_short : i ≤ room) (at_colon : c ≡ mark Colon p ∷ d) where
      abbrev Low : Spelling
      Low = Then (SpellsMaybe low) (Mark Colon)

      -- [ ":" Expr ] "]"
      abbrev Last : Spelling
      Last us ws = Mark RBracket us ws ⊎ Then (Mark Colon) (Then (ExprForm Plain room 1) (Mark RBracket)) us ws

      no_high : (vs ws : List Word) → Then Low (Mark RBracket) vs ws → Follows vs ws
      no_high vs ws q us a o mk = record {
        tree = sliced f.spot f.tree low absent absent;
        spells = (a, vs, q.1.0, q.0, q.0, q.0, o.0, o.1, mk, q.1.1, q.1.2, tt, refl, refl, q.2);
        fits = record { fits = (is.full, is.fits, low_fits, tt, tt); shallow = omega (arith, is.shallow, low_sized, low_short); binds = omega arith };
      }

      some_high : (vs ws : List Word) → Then Low (Then (ExprForm Plain room 1) Last) vs ws → Follows vs ws
      some_high vs ws (b, l, (g, e, inl close)) us a o mk = record {
        tree = sliced f.spot f.tree low (given e.tree) absent;
        spells = (a, vs, l.0, b, g, g, o.0, o.1, mk, l.1, l.2, tt, e.spells, refl, close);
        fits = record { fits = (is.full, is.fits, low_fits, e.fits.fits, tt); shallow = omega (arith, is.shallow, low_sized, low_short, e.fits.shallow); binds = omega arith };
      }
      some_high vs ws (b, l, (g, e, inr t)) us a o mk = let x = t.2.1 in record {
        tree = sliced f.spot f.tree low (given e.tree) (given x.tree);
        spells = (a, vs, l.0, b, g, t.2.0, o.0, o.1, mk, l.1, l.2, tt, e.spells, (t.0, t.1, x.spells), t.2.2);
        fits = record { fits = (is.full, is.fits, low_fits, e.fits.fits, x.fits.fits); shallow = omega (arith, is.shallow, low_sized, low_short, e.fits.shallow, x.fits.shallow); binds = omega arith };
      }

      short_last : Short Last
      short_last = short_as (short_mark RBracket) (λ us ws h. inl h)

      at_mark : Mark LBracket m rest
      at_mark = record { spot = s; is = at_bracket }

      colon : Mark Colon c d
      colon = record { spot = p; is = at_colon }

      second_sound : (h : Read Tree) (g : List Word) → IsWhole Plain room 1 d h g → Holds (Reads ts) (Stops Last g) (second_bound room inner f low i h g)
      second_sound h g w = mark_holds Colon _ _ g
          (λ q t e. after (frame_mark Colon g t (record { spot = q; is = e })) (short_then (short_expr Plain room 1 is.positive (omega arith)) (short_mark RBracket)) (λ us ws x. inr x)
          (then_holds (short_mark RBracket) (plain_read room inner own Plain 1 t refl (omega arith)) (λ x b w2. frame_whole Plain room 1 t x b w2.0)
          (λ x b w2. mark_end RBracket (slice_of room inner f low i (given h.tree) h.depth (given x.tree) x.depth) b (λ r close. record {
            begins = is.read.begins;
            spells = (m, rest, c, d, g, b, is.read.begins, is.read.spells, at_mark, hl, colon, tt, w.spells, (t, record { spot = q; is = e }, w2.0.spells), close);
            fits = record { fits = (is.full, is.fits, low_fits, w.fits.fits, w2.0.fits.fits); shallow = omega (arith, is.shallow, low_sized, low_short, w.fits.shallow, w2.0.fits.shallow); binds = omega arith };
            sized = rw (is.read.sized, low_sized, w.sized, w2.0.sized) refl;
          }))))
          (λ _. faults (mark_end RBracket (slice_of room inner f low i (given h.tree) h.depth absent 0) g (λ r close. record {
            begins = is.read.begins;
            spells = (m, rest, c, d, g, g, is.read.begins, is.read.spells, at_mark, hl, colon, tt, w.spells, refl, close);
            fits = record { fits = (is.full, is.fits, low_fits, w.fits.fits, tt); shallow = omega (arith, is.shallow, low_sized, low_short, w.fits.shallow); binds = omega arith };
            sized = rw (is.read.sized, low_sized, w.sized) refl;
          })) (λ us ws h. inl h))

      pub bounds_sound : Holds (Reads ts) (Stops Follows rest) (bounds room inner f low i d)
      unfolding bounds
      bounds_sound = mark_holds RBracket _ _ d
          (λ q r e. good (record {
            begins = is.read.begins;
            spells = (m, rest, c, d, d, d, is.read.begins, is.read.spells, at_mark, hl, colon, tt, refl, refl, record { spot = q; is = e });
            fits = record { fits = (is.full, is.fits, low_fits, tt, tt); shallow = omega (arith, is.shallow, low_sized, low_short); binds = omega arith };
            sized = rw (is.read.sized, low_sized) refl;
          }))
          (λ _. after (next fl (frame_mark Colon c d colon)) (short_then (short_expr Plain room 1 is.positive (omega arith)) short_last) some_high
          (then_holds short_last (plain_read room inner own Plain 1 d refl (omega arith)) (λ h g w. frame_whole Plain room 1 d h g w.0) (λ h g w. second_sound h g w.0)))
