-- Arguments of a call.
use Rattle.std.proofs.Common.{◌≡◌, ◌⊎◌, inl, inr, ℕ, max, Bool, true, false, List, [], ◌∷◌, ◌++◌, Option, Some, None, refl, sym, ap, subst, ◌∙◌, arith}
use Rattle.ui_base.specs.declared.value.Spot.{Spot}
use Rattle.ui_scan.specs.declared.kind.TokenKind.TheVariants.{LParen, RParen, Comma, Ellipsis}
use Rattle.ui_tree.specs.Tree.{TypeTree, Tree, call, type_arg}
use Rattle.ui_tree.specs.View.{trees}
use Rattle.ui_grammar.specs.Word.{Word, mark, Mark, Closes}
use Rattle.ui_grammar.specs.Spells.{Spells, SpellsTrees}
use Rattle.ui_grammar.specs.Fits.{argument, depth, Fits}
use Rattle.ui_grammar.proofs.Frames.{Spelling, Framed, Then, next, frame, frame_mark}
use Rattle.ui_parse.specs.Reader.{and_then, pure, eat, parts}
use Rattle.ui_parse.proofs.Outcomes.{Holds, good, bind, mono, eat_holds}
use Rattle.ui_parse.proofs.Steady.{Steady}
use Rattle.ui_parse.proofs.TurnLaws.{KeepsParts, parts_holds}
use Rattle.ui_syntax.specs.declared.site.Site.{Site}
use Rattle.ui_syntax.specs.declared.site.Site.TheVariants.{Argument}
use Rattle.ui_syntax.specs.Cover.{Read, only_type}
use Rattle.ui_syntax.specs.Types.{Nested}
use Rattle.ui_syntax.specs.Exprs.{Arguments, no_arguments, call_ending, add_argument, called}
use Rattle.ui_syntax.specs.Exprs as exprs
use Rattle.ui_syntax.proofs.ByBudget.{Begun, Stops, CoverForm, IsSoundAt}
use Rattle.ui_syntax.proofs.Begun.{short_as, short_mark, begun_as, stops_as, behind_none}
use Rattle.ui_syntax.proofs.Places.{fits_argument}
use Rattle.ui_syntax.proofs.SoundExprsFronts.{frame_to, after}
use Rattle.ui_syntax.proofs.SoundExprsForms.{IsCover, cover_is, cover_of}
use Rattle.ui_syntax.proofs.SoundExprsTrees.{PartForm, IsPart, AreParts, no_parts, parts_add, framed_here, Going, going_first, going_next, going_end, Spread, going_spread, ListForm, tail_none, tail_stops, going_begun, first_stops, short_list}
use Rattle.ui_syntax.proofs.SoundExprsIndexed.{Reads, Primary, IsOperand, Operand, frame_operand}

-- ---- one argument

cover_part : (b : ℕ) (ts : List Word) (x : Read Tree) (rest : List Word) (o : Option TypeTree) → IsCover Argument b 1 ts x rest o → IsPart argument b ts x rest
cover_part b ts x rest None h = record { spells = h.spells; fits = fits_argument x.tree h.fits.fits; sized = h.sized; shallow = omega (arith, h.sized, h.fits.shallow) }
cover_part b ts x rest (Some t) h = record {
  spells = subst (λ (e : Tree). Spells e ts rest) (sym h.is) h.spells;
  fits = subst (λ (e : Tree). Fits e argument) (sym h.is) (refl, h.fits.no_expression, h.fits.fits);
  sized = ap depth h.is ∙ h.sized;
  shallow = omega (arith, h.sized, h.fits.room);
}

part_form : (b : ℕ) (us ws : List Word) → CoverForm Argument b 1 us ws → PartForm argument b us ws
part_form b us ws (inl h) = record { tree = h.tree; spells = h.spells; fits = fits_argument h.tree h.fits.fits; shallow = h.fits.shallow }
part_form b us ws (inr h) = record { tree = type_arg h.tree; spells = h.spells; fits = (refl, h.fits.no_expression, h.fits.fits); shallow = h.fits.room }

-- ---- the list, behind the parenthesis

-- what was read of it, and what may follow
abbrev State : Bool → List Tree → List Word → List Word → Type 0
State false items ts ws = Framed (Going RParen items) ts ws
State true items ts ws = Framed (Spread RParen items) ts ws

abbrev ArgsForm : ℕ → Spelling
ArgsForm b us ws = ListForm RParen false argument b us ws ⊎ ListForm RParen true argument b us ws

module _ (room : ℕ) (inner : Nested) (own : IsSoundAt room inner.level inner.maybe_type) (argument_steady : (l : Arguments) → Steady (exprs.argument room inner l)) where
  module _ (rest : List Word) where
    record ArgsAt (l : Arguments) (ws : List Word) : Type 0 where
      state : State l.spread l.items rest ws
      are : AreParts argument room l.items l.depth

    record ArgsRead (l : Arguments) (r : List Word) : Type 0 where
      spells : SpellsTrees RParen l.spread (trees l.items) rest r
      are : AreParts argument room l.items l.depth

    abbrev Fault : List Word → Type 0
    Fault r = Stops (ArgsForm room) rest r

    plain_fault : (r : List Word) → Begun (ListForm RParen false argument room) rest r → Fault r
    plain_fault r g = inr (begun_as g (λ us ws h. inl h))

    spread_form : (items : List Tree) (k : ℕ) → AreParts argument room items k → (us ws : List Word) → SpellsTrees RParen true (trees items) us ws → ArgsForm room us ws
    spread_form items k are us ws h = inr (record { items = items; spells = h; fits = are.fits; shallow = omega (arith, are.sized, are.shallow) })

    stuck_by : (b : Bool) (items : List Tree) (k : ℕ) (ws : List Word) → State b items rest ws → AreParts argument room items k → Fault ws
    stuck_by false items k ws f are = plain_fault ws (going_begun RParen argument room items k are f (tail_none RParen argument room ws))
    stuck_by true items k ws f are = inr (begun_as (behind_none f (short_mark RParen)) (λ us r q. spread_form items k are us r (q.1 r (inl q.2))))

    separated_by : (b : Bool) (items : List Tree) (k : ℕ) (s : Spot) (ws r : List Word) → b ≡ true → State b items rest ws → AreParts argument room items k → ws ≡ mark Comma s ∷ r → Fault r
    separated_by false items k s ws r e f are at = absurd cc
    separated_by true items k s ws r e f are at = inr (begun_as (behind_none (frame_to Comma s f at) (short_mark RParen)) (λ us z q. spread_form items k are us z (q.1.1 z (inr (q.0, q.1.2, q.2)))))

    last_by : (b : Bool) (items : List Tree) (ws r : List Word) → State b items rest ws → Closes Comma RParen ws r → SpellsTrees RParen b (trees items) rest r
    last_by false items ws r f c = going_end RParen items r f c
    last_by true items ws r f c = framed_here f r c

    going_of : (b : Bool) (items : List Tree) (ws : List Word) → b ≡ false → State b items rest ws → Framed (Going RParen items) rest ws
    going_of false items ws e f = f
    going_of true items ws e f = absurd cc

    -- behind an argument: `...`, or none
    spread_read : (l : Arguments) (x : Read Tree) (m : List Word) → Framed (Going RParen (l.items ++ (x.tree ∷ []))) rest m → AreParts argument room (l.items ++ (x.tree ∷ [])) (max l.depth x.depth)
        → Holds ArgsAt Fault (and_then (eat Ellipsis m) (λ s. pure (add_argument l x s)))
    spread_read l x m f are = eat_holds Ellipsis (λ s. pure (add_argument l x s)) m
        (λ s r e. good (record { state = going_spread RParen (l.items ++ (x.tree ∷ [])) f (frame_mark Ellipsis m r (record { spot = s; is = e })); are = are }))
        (λ _. good (record { state = f; are = are }))

    argument_read : (ws : List Word) → Holds (IsPart argument room ws) (Stops (PartForm argument room) ws) (inner.level Argument 1 ws)
    argument_read ws = mono (own.expr Argument 1 ws (omega arith))
        (λ x r h. cover_part room ws x r (only_type x.tree) (cover_is Argument room 1 ws x r (only_type x.tree) refl (cover_of h)))
        (λ r g. stops_as g (part_form room))

    next_argument : (l : Arguments) (s : Spot) (ws n : List Word) → ArgsAt l ws → l.spread ≡ false → ws ≡ mark Comma s ∷ n → Holds ArgsAt Fault (exprs.argument room inner l n)
    unfolding exprs.argument
    next_argument l s ws n j off e =
        let f = going_of l.spread l.items ws off j.state in
        bind (argument_read n)
        (λ x m h. spread_read l x m (going_next RParen l.items x.tree f (next (frame_mark Comma ws n (record { spot = s; is = e })) (frame x.tree n m h.spells))) (parts_add argument room l.items l.depth n x m j.are h))
        (λ r g. plain_fault r (going_begun RParen argument room l.items l.depth j.are f (tail_stops RParen argument room s ws n r e g)))

    first_argument : Holds ArgsAt Fault (exprs.argument room inner no_arguments rest)
    unfolding exprs.argument
    first_argument = bind (argument_read rest)
        (λ x m h. spread_read no_arguments x m (going_first RParen x.tree (frame x.tree rest m h.spells)) (parts_add argument room [] 0 rest x m (no_parts argument room) h))
        (λ r g. stops_as (first_stops RParen argument room rest r g) (λ us ws h. inl h))

    keeps : KeepsParts Comma RParen call_ending (exprs.argument room inner) argument_steady ArgsAt ArgsRead Fault
    keeps = record {
      part = λ l s ws n j off e. next_argument l s ws n j off e;
      last = λ l ws r j may c. record { spells = last_by l.spread l.items ws r j.state c; are = j.are };
      stuck = λ l ws j. stuck_by l.spread l.items l.depth ws j.state j.are;
      stuck_separated = λ l s ws r j must e. separated_by l.spread l.items l.depth s ws r must j.state j.are e;
    }

    arguments_sound : Holds ArgsRead Fault (parts Comma RParen call_ending (exprs.argument room inner) no_arguments rest)
    arguments_sound = parts_holds Comma RParen call_ending (exprs.argument room inner) argument_steady ArgsAt ArgsRead Fault keeps no_arguments rest
        (λ _. first_argument) (λ s r may e. record { spells = (refl, record { spot = s; is = e }); are = no_parts argument room })

  module _ (site : Site) (ts : List Word) (f : Read Tree) (m : List Word) (is : IsOperand room inner own site ts f m) (rest : List Word) (s : Spot) (at_paren : m ≡ mark LParen s ∷ rest) where
    call_form : (us ws : List Word) → Then (Then (Operand room inner own site ts f m is) (Mark LParen)) (ArgsForm room) us ws → Primary room inner own site us ws
    call_form us ws (a, o, inl l) = record {
      tree = call f.spot f.tree (trees l.items) false;
      spells = (o.0, a, o.1.0, o.1.1, o.2, l.spells);
      fits = record { fits = (is.full, is.fits, l.fits); shallow = omega (arith, is.shallow, l.shallow); binds = omega arith };
    }
    call_form us ws (a, o, inr l) = record {
      tree = call f.spot f.tree (trees l.items) true;
      spells = (o.0, a, o.1.0, o.1.1, o.2, l.spells);
      fits = record { fits = (is.full, is.fits, l.fits); shallow = omega (arith, is.shallow, l.shallow); binds = omega arith };
    }

    pub called_sound : Holds (Reads room inner own site ts) (Stops (Primary room inner own site) ts) (called room inner f rest)
    unfolding called
    called_sound = after (frame_to LParen s (frame_operand room inner own site ts f m is) at_paren) (short_as (short_list RParen argument room) (λ us ws h. inl h)) call_form
        (bind (arguments_sound rest)
        (λ l r h. good (record {
          begins = is.read.begins;
          spells = (m, rest, is.read.begins, is.read.spells, record { spot = s; is = at_paren }, h.spells);
          fits = record { fits = (is.full, is.fits, h.are.fits); shallow = omega (arith, is.shallow, h.are.sized, h.are.shallow); binds = omega arith };
          sized = rw (is.read.sized, h.are.sized) refl;
        }))
        (λ r g. g))
