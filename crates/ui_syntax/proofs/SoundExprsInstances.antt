-- An index, or type arguments, between brackets behind an operand.
use Rattle.std.proofs.Common.{◌≡◌, inl, inr, ℕ, ◌≤◌, Bool, true, false, List, [], ◌∷◌, Option, Some, None, refl, sym, ap, subst, ◌∙◌, arith}
use Rattle.ui_base.specs.declared.value.Spot.{Spot}
use Rattle.ui_scan.specs.declared.kind.TokenKind.{TokenKind}
use Rattle.ui_scan.specs.declared.kind.TokenKind.TheVariants.{LBracket, RBracket, Comma, Colon}
use Rattle.ui_tree.specs.Tree.{TypeTree, Types, types_end, type_and, Tree, absent, given}
use Rattle.ui_tree.specs.View.{types}
use Rattle.ui_grammar.specs.Word.{Word, mark, Mark}
use Rattle.ui_grammar.specs.Both.{is_expression}
use Rattle.ui_grammar.specs.Spells.{SpellsType, SpellsInstance, SpellsTypesTail, SpellsInstanceTail}
use Rattle.ui_grammar.specs.Fits.{plain_type, type_depth, FitsType}
use Rattle.ui_grammar.proofs.Frames.{Spelling, Framed, Then, next, frame_none, frame, frame_type}
use Rattle.ui_parse.specs.Reader.{Outcome, and_then, pure, refuse, first, tail, marked}
use Rattle.ui_parse.proofs.Outcomes.{Holds, good, bad, bind, holds_at, mark_holds, marked_is}
use Rattle.ui_parse.proofs.Steady.{Steady}
use Rattle.ui_parse.proofs.TurnLaws.{parts_step, parts_close}
use Rattle.ui_syntax.specs.declared.site.Site.{Site}
use Rattle.ui_syntax.specs.declared.site.Site.TheVariants.{Argument}
use Rattle.ui_syntax.specs.Cover.{Read, only_type, as_type}
use Rattle.ui_syntax.specs.Types.{Nested, Listed, add, only, any_end, one_more, a_type, more_args, args_behind}
use Rattle.ui_syntax.specs.Exprs.{instance_of, instance_behind, behind_index, indexed}
use Rattle.ui_syntax.proofs.ByBudget.{Begun, Stops, CoverForm, IsSoundAt}
use Rattle.ui_syntax.proofs.Begun.{short_mark, begun_as, behind, behind_none, before}
use Rattle.ui_syntax.proofs.Runs.{FormOf, run_first}
use Rattle.ui_syntax.proofs.Covers.{type_of_tree}
use Rattle.ui_syntax.proofs.SoundTypesLists.{TypeFits, TypeOk, GoodTypes, TypesTail, TypesAt, TypesRead, ok_only, ok_add, good_one, more_is, more_types_holds}
use Rattle.ui_syntax.proofs.SoundTypesRead.{type_ok}
use Rattle.ui_syntax.proofs.SoundExprsFronts.{Either, fixed_cover, frame_to, after}
use Rattle.ui_syntax.proofs.SoundExprsForms.{IsWhole, IsCover, cover_is, cover_of}
use Rattle.ui_syntax.proofs.SoundExprsInner.{frame_whole, type_read}
use Rattle.ui_syntax.proofs.SoundExprsIndexed.{Reads, Primary, IsOperand, Follows, frame_operand, index_follows, instance_follows, short_follows, bounds_sound}

-- ---- tails of type arguments

instance_tail : (b : Bool) (us : Types) (k r : List Word) → b ≡ false → SpellsTypesTail Comma RBracket us k r → SpellsInstanceTail b us k r
instance_tail true us k r e h = absurd cc
instance_tail false types_end k r e h = h
instance_tail false (type_and t us) k r e h = h

instance_more : (b : Bool) (t : TypeTree) (us : Types) (k r : List Word) → SpellsTypesTail Comma RBracket (type_and t us) k r → SpellsInstanceTail b (type_and t us) k r
instance_more true t us k r h = h
instance_more false t us k r h = h

instance_comma : (b : Bool) (k r : List Word) → Then (Mark Comma) (Mark RBracket) k r → SpellsInstanceTail b types_end k r
instance_comma true k r h = h
instance_comma false k r h = inr h

first_is : (k : TokenKind) (s : Spot) (ws : List Word) → first (marked k) ws ≡ Some s → ws ≡ mark k s ∷ tail ws
first_is k s [] e = absurd cc
first_is k s (w ∷ ws) e = ap (λ (v : Word). v ∷ ws) (marked_is k w s e)

abbrev Whole : List TypeTree → Spelling
Whole us = SpellsInstance (types us)

module _ (room : ℕ) (inner : Nested) (own : IsSoundAt room inner.level inner.maybe_type) (type_steady : Steady (a_type room inner)) where
  one_ok : (ws : List Word) → Holds (TypeOk plain_type room ws) (Stops (TypeFits plain_type room) ws) (a_type room inner ws)
  one_ok ws = type_ok (omega arith) (type_read room inner own ws)

  abbrev AreRead : List Word → Listed TypeTree → List Word → Type 0
  AreRead rest = TypesRead Comma RBracket plain_type room Whole rest

  abbrev AreFaults : List Word → List Word → Type 0
  AreFaults rest = Begun (FormOf Whole (GoodTypes plain_type room)) rest

  -- behind a first type that is no expression
  more_args_sound : (rest m : List Word) (t : TypeTree) (k : ℕ) → SpellsType t rest m → FitsType t plain_type → is_expression t ≡ false → type_depth t ≡ k → k ≤ room
      → Holds (AreRead rest) (AreFaults rest) (more_args (a_type room inner) (only t k) m)
  more_args_sound rest m t k h fits off sized le = more_types_holds Comma RBracket plain_type room Whole rest (a_type room inner) type_steady one_ok (only t k) m (record {
    run = run_first (TypesTail Comma RBracket) Whole t rest m (frame_type t rest m h) (λ us a b r h2 g. (b, h2, instance_tail (is_expression t) (types us) b r off g));
    ok = ok_only plain_type room t k fits sized le;
  })

  -- behind a first type and a comma
  module _ (rest m n : List Word) (t : TypeTree) (k : ℕ) (s : Spot) (h : SpellsType t rest m) (fits : FitsType t plain_type) (sized : type_depth t ≡ k) (le : k ≤ room) (at_comma : m ≡ mark Comma s ∷ n) where
    comma : Framed (Then (SpellsType t) (Mark Comma)) rest n
    comma = frame_to Comma s (frame_type t rest m h) at_comma

    one_alone : (us ws : List Word) → Then (Then (SpellsType t) (Mark Comma)) (Mark RBracket) us ws → FormOf Whole (GoodTypes plain_type room) us ws
    one_alone us ws q = record { all = t ∷ []; spells = (q.1.0, q.1.1, instance_comma (is_expression t) q.1.0 ws (q.0, q.1.2, q.2)); ok = good_one t plain_type room fits (omega (arith, sized, le)) }

    one_and : (us ws : List Word) → Then (Then (SpellsType t) (Mark Comma)) (Then (TypeFits plain_type room) (Mark RBracket)) us ws → FormOf Whole (GoodTypes plain_type room) us ws
    one_and us ws q = let u = q.2.1 in record {
      all = t ∷ (u.tree ∷ []);
      spells = (q.1.0, q.1.1, instance_more (is_expression t) u.tree types_end q.1.0 ws (q.0, q.2.0, q.1.2, u.spells, inl q.2.2));
      ok = ((fits, (u.fits, tt)), omega (arith, sized, le, u.shallow));
    }

    next_stops : (r : List Word) → Stops (TypeFits plain_type room) n r → AreFaults rest r
    next_stops r (inl same) = subst (λ (v : List Word). AreFaults rest v) same (begun_as (behind_none comma (short_mark RBracket)) one_alone)
    next_stops r (inr g) = begun_as (behind comma (before g (short_mark RBracket))) one_and

    second_at : (u : Read TypeTree) (r : List Word) → TypeOk plain_type room n u r → TypesAt Comma RBracket plain_type room Whole rest (add (only t k) u.tree u.depth) r
    second_at u r g =
        let fr = next comma (frame_type u.tree n r g.spells) in
        record {
          run = record { front = fr.front; parts = fr.parts; again = λ us a e tail. let q = fr.again a in (q.1.0, q.1.1, instance_more (is_expression t) u.tree (types us) q.1.0 e (q.0, a, q.1.2, q.2, tail)) };
          ok = ok_add plain_type room (only t k) u.tree u.depth (ok_only plain_type room t k fits sized le) g.fits g.sized g.shallow;
        }

    by_close : (o : Option Spot) → first (marked RBracket) n ≡ o → Holds (AreRead rest) (AreFaults rest) (args_behind (a_type room inner) (only t k) n)
    by_close None e = holds_at (bind (bind (one_ok n) (λ u r g. good (second_at u r g)) (λ r g. next_stops r g))
        (λ l r j. more_types_holds Comma RBracket plain_type room Whole rest (a_type room inner) type_steady one_ok l r j) (λ r g. g))
        (sym (parts_step Comma RBracket any_end (one_more (a_type room inner)) (more_is Comma RBracket plain_type room Whole rest (a_type room inner) type_steady one_ok) (only t k) n e))
    by_close (Some p) e = let is = first_is RBracket p n e in holds_at (good (record {
      spells = (m, h, instance_comma (is_expression t) m (tail n) (n, record { spot = s; is = at_comma }, record { spot = p; is = is }));
      ok = ok_only plain_type room t k fits sized le;
    }))
        (sym (ap (args_behind (a_type room inner) (only t k)) is ∙ parts_close Comma RBracket any_end (one_more (a_type room inner)) (more_is Comma RBracket plain_type room Whole rest (a_type room inner) type_steady one_ok) (only t k) p (tail n) refl))

    args_behind_sound : Holds (AreRead rest) (AreFaults rest) (args_behind (a_type room inner) (only t k) n)
    args_behind_sound = by_close (first (marked RBracket) n) refl

  -- ---- between the brackets

  module _ (site : Site) (ts : List Word) (f : Read Tree) (m : List Word) (is : IsOperand room inner own site ts f m) (rest : List Word) (s : Spot) (at_bracket : m ≡ mark LBracket s ∷ rest) where
    abbrev Goes : Spelling
    Goes = Follows room inner own site ts f m is

    abbrev Out : Read Tree → List Word → Type 0
    Out = Reads room inner own site ts

    all_follow : (us ws : List Word) → FormOf Whole (GoodTypes plain_type room) us ws → Goes us ws
    all_follow us ws h = instance_follows room inner own site ts f m is (types h.all) h.ok.0 h.ok.1 us ws h.spells

    instance_good : (us : Listed TypeTree) (r : List Word) → AreRead rest us r → Out (instance_of room inner f us) r
    instance_good us r h = record {
      begins = is.read.begins;
      spells = (m, rest, is.read.begins, is.read.spells, record { spot = s; is = at_bracket }, h.spells);
      fits = record { fits = (is.full, is.fits, h.ok.fits); shallow = omega (arith, is.shallow, h.ok.sized, h.ok.shallow); binds = omega arith };
      sized = rw (is.read.sized, h.ok.sized) refl;
    }

    instance_out : (o : Outcome (Listed TypeTree)) → Holds (AreRead rest) (AreFaults rest) o → Holds Out (Stops Goes rest) (and_then o (λ us. pure (instance_of room inner f us)))
    instance_out o h = bind h (λ us r g. good (instance_good us r g)) (λ r g. inr (begun_as g all_follow))

    instance_behind_sound : (x : Read Tree) (n : List Word) → IsWhole Argument room 1 rest x n → (o : Option TypeTree) → as_type x.tree ≡ o → Holds Out (Stops Goes rest) (instance_behind room inner f x.depth o n)
    instance_behind_sound x n w None e = bad (inr (begun_as (behind_none (frame_whole Argument room 1 rest x n w) (short_mark RBracket)) (index_follows room inner own site ts f m is)))
    instance_behind_sound x n w (Some t) e = mark_holds Comma _ refuse n
        (λ p a e2. let k = type_of_tree x.tree t rest n e w.spells w.fits.fits in
        instance_out (args_behind (a_type room inner) (only t x.depth) a) (args_behind_sound rest n a t x.depth p k.0 k.1 (k.3 ∙ w.sized) (omega (arith, w.sized, w.fits.shallow)) e2))
        (λ _. bad (inr (begun_as (behind_none (frame_whole Argument room 1 rest x n w) (short_mark RBracket)) (index_follows room inner own site ts f m is))))

    behind_index_sound : (x : Read Tree) (n : List Word) (o : Option TypeTree) → IsCover Argument room 1 rest x n o → Holds Out (Stops Goes rest) (behind_index room inner f x o n)
    behind_index_sound x n (Some t) h = instance_out (more_args (a_type room inner) (only t x.depth) n) (more_args_sound rest n t x.depth h.spells h.fits.fits h.fits.no_expression h.sized (omega (arith, h.sized, h.fits.room)))
    behind_index_sound x n None h = mark_holds Colon _ _ n
        (λ p d e. bounds_sound room inner own site ts f m is rest s at_bracket (given x.tree) x.depth n d p (frame x.tree rest n h.spells) h.spells h.fits.fits h.sized (omega (arith, h.sized, h.fits.shallow)) e)
        (λ _. mark_holds RBracket _ _ n
        (λ p r e. good (record {
          begins = is.read.begins;
          spells = (m, rest, n, is.read.begins, is.read.spells, record { spot = s; is = at_bracket }, h.spells, record { spot = p; is = e });
          fits = record { fits = (is.full, is.fits, h.fits.fits); shallow = omega (arith, is.shallow, h.fits.shallow); binds = omega arith };
          sized = rw (is.read.sized, h.sized) refl;
        }))
        (λ _. instance_behind_sound x n h (as_type x.tree) refl))

    one_begun : (r : List Word) → Either Argument room 1 rest r → Begun Goes rest r
    one_begun r (inl g) = begun_as (before g (short_mark RBracket)) (index_follows room inner own site ts f m is)
    one_begun r (inr g) = begun_as (before g (short_mark RBracket)) (λ us ws q. let t = q.1 in
        instance_follows room inner own site ts f m is (type_and t.tree types_end) (t.fits.fits, tt) (omega (arith, t.fits.room)) us ws
        (q.0, t.spells, instance_tail (is_expression t.tree) types_end q.0 ws t.fits.no_expression (inl q.2)))

    one_stops : (r : List Word) → Stops (CoverForm Argument room 1) rest r → Stops Goes rest r
    one_stops r (inl e) = inl e
    one_stops r (inr g) = inr (one_begun r (fixed_cover g))

    pub indexed_sound : Holds Out (Stops (Primary room inner own site) ts) (indexed room inner f rest)
    unfolding indexed
    indexed_sound = after (frame_to LBracket s (frame_operand room inner own site ts f m is) at_bracket) (short_follows room inner own site ts f m is) (λ us ws q. q.2 us q.1.0 q.1.1 q.1.2)
        (mark_holds Colon _ _ rest
        (λ p d e. bounds_sound room inner own site ts f m is rest s at_bracket absent 0 rest d p (frame_none rest rest refl) refl tt refl (omega arith) e)
        (λ _. bind (own.expr Argument 1 rest (omega arith))
        (λ x n h. behind_index_sound x n (only_type x.tree) (cover_is Argument room 1 rest x n (only_type x.tree) refl (cover_of h)))
        (λ r g. one_stops r g)))
