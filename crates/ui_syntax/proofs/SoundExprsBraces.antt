-- Elements of a literal, behind the brace.
use Rattle.std.proofs.Common.{◌≡◌, inr, ℕ, suc, max, ◌≤◌, false, List, [], ◌∷◌, refl, sym, subst, arith}
use Rattle.std.specs.Prelude.{nat_le}
use Rattle.std.proofs.lemmas.Bool.{leb-true}
use Rattle.ui_base.specs.declared.value.Spot.{Spot}
use Rattle.ui_scan.specs.declared.kind.TokenKind.TheVariants.{LBrace, RBrace, Comma, Colon}
use Rattle.ui_tree.specs.Tree.{Tree, elided, keyed}
use Rattle.ui_tree.specs.View.{trees}
use Rattle.ui_grammar.specs.Word.{Word, mark, Mark, Begins, Closes}
use Rattle.ui_grammar.specs.Spells.{Spells}
use Rattle.ui_grammar.specs.Fits.{element, item, depth, Fits}
use Rattle.ui_grammar.proofs.Frames.{Framed, Then, next, frame, frame_mark}
use Rattle.ui_parse.specs.Reader.{and_then, pure}
use Rattle.ui_parse.proofs.Outcomes.{Holds, good, bind, mono, choose, mark_holds}
use Rattle.ui_parse.proofs.Steady.{Steady}
use Rattle.ui_parse.proofs.TurnLaws.{KeepsParts, parts_holds}
use Rattle.ui_syntax.specs.declared.site.Site.TheVariants.{Plain}
use Rattle.ui_syntax.specs.Cover.{Read}
use Rattle.ui_syntax.specs.Types.{Nested, Listed, add, empty, any_end}
use Rattle.ui_syntax.specs.Exprs.{of_tree, an_expr, add_elem, elem, braces}
use Rattle.ui_syntax.specs.Exprs as exprs
use Rattle.ui_syntax.proofs.ByBudget.{Begun, Stops, ExprForm, ElemsForm, AreElemsRead, IsSoundAt}
use Rattle.ui_syntax.proofs.Begun.{Short, Is, short_as, short_expr, frame_word, begun_as, stops_as, behind_stops, mark_at}
use Rattle.ui_syntax.proofs.Places.{ItemCase, an_item, in_braces, item_case, fits_element, fits_item, depth_positive}
use Rattle.ui_syntax.proofs.SoundExprsFronts.{Standing, frame_standing, frame_to, after, short_elems}
use Rattle.ui_syntax.proofs.SoundExprsInner.{plain_read}
use Rattle.ui_syntax.proofs.SoundExprsTrees.{PartForm, IsPart, AreParts, no_parts, parts_add, Going, going_first, going_next, going_end, ListForm, tail_none, tail_separated, tail_stops, going_begun, first_stops}

-- an item is an element
element_by : (e : Tree) → ItemCase e → Fits e element
element_by e (an_item f) = fits_element e f
element_by e (in_braces s es is f) = subst (λ (x : Tree). Fits x element) (sym is) (refl, f)

item_element : (e : Tree) → Fits e item → Fits e element
item_element e f = element_by e (item_case e f)

element_form : (b : ℕ) (us ws : List Word) → PartForm item b us ws → PartForm element b us ws
element_form b us ws h = record { tree = h.tree; spells = h.spells; fits = item_element h.tree h.fits; shallow = h.shallow }

item_form : (b : ℕ) (us ws : List Word) → ExprForm Plain b 1 us ws → PartForm item b us ws
item_form b us ws h = record { tree = h.tree; spells = h.spells; fits = fits_item h.tree h.fits.fits; shallow = h.fits.shallow }

record IsItem (b : ℕ) (ts : List Word) (x : Read Tree) (rest : List Word) : Type 0 where
  begins : Begins x.spot ts
  part : IsPart item b ts x rest

-- what was added to the elements
record IsAdded (b : ℕ) (l : Listed Tree) (ts : List Word) (all : Listed Tree) (rest : List Word) : Type 0 where
  read : Read Tree
  part : IsPart element b ts read rest
  added : all ≡ add l read.tree read.depth

module _ (room : ℕ) (inner : Nested) (own : IsSoundAt room inner.level inner.maybe_type)
    (own_braces : (ts : List Word) → Holds (AreElemsRead room ts) (Stops (ElemsForm room) ts) (inner.braces ts))
    (elem_steady : (l : Listed Tree) → Steady (elem room inner l)) where
  -- ---- one item

  expr_item : (ts : List Word) → Holds (IsItem room ts) (Stops (PartForm item room) ts) (an_expr room inner ts)
  expr_item ts = mono (plain_read room inner own Plain 1 ts refl (omega arith))
      (λ x r w. record { begins = w.0.begins; part = record { spells = w.0.spells; fits = fits_item x.tree w.0.fits.fits; sized = w.0.sized; shallow = omega (arith, w.0.sized, w.0.fits.shallow) } })
      (λ r g. stops_as g (item_form room))

  elided_form : (s : Spot) (us ws : List Word) → Then (Is (mark LBrace s)) (ElemsForm room) us ws → PartForm item room us ws
  elided_form s us ws q = record { tree = elided s q.2.all; spells = (q.0, q.1, q.2.spells); fits = (refl, q.2.fits); shallow = q.2.shallow }

  elided_item : (s : Spot) (rest : List Word) → 1 ≤ room → Holds (IsItem room (mark LBrace s ∷ rest)) (Stops (PartForm item room) (mark LBrace s ∷ rest))
      (and_then (inner.braces rest) (λ es. pure (of_tree (elided s (trees es.items)) s (suc es.depth))))
  elided_item s rest le = bind (own_braces rest)
      (λ es r h. good (record { begins = refl; part = record { spells = (rest, refl, h.spells); fits = (refl, h.fits); sized = rw (h.sized) refl; shallow = h.shallow } }))
      (λ r g. inr (begun_as (behind_stops (frame_word (mark LBrace s) rest) (short_elems room le) g) (elided_form s)))

  item_sound : (ts : List Word) → Holds (IsItem room ts) (Stops (PartForm item room) ts) (exprs.item room inner ts)
  item_sound ts = choose (nat_le 1 room) _ (an_expr room inner) ts
      (λ le. mark_at (λ v. IsItem room v) (λ v. Stops (PartForm item room) v) LBrace _ (an_expr room inner) ts (λ s rest. elided_item s rest (leb-true _ _ le)) (λ _. expr_item ts))
      (λ _. expr_item ts)

  short_item : 1 ≤ room → Short (PartForm item room)
  short_item le = short_as (short_expr Plain room 1 le (omega arith)) (item_form room)

  -- ---- one element

  keyed_form : (k : Read Tree) → Fits k.tree item → depth k.tree ≤ room → (us ws : List Word) → Then (Then (Standing k.spot (Spells k.tree)) (Mark Colon)) (PartForm item room) us ws → PartForm element room us ws
  keyed_form k fits le us ws q = record {
    tree = keyed k.spot k.tree q.2.tree;
    spells = (q.1.0, q.0, q.1.1.0, q.1.1.1, q.1.2, q.2.spells);
    fits = (refl, fits, q.2.fits);
    shallow = omega (arith, le, q.2.shallow);
  }

  add_elem_sound : (l : Listed Tree) (ts : List Word) (k : Read Tree) (m : List Word) → IsItem room ts k m → Holds (IsAdded room l ts) (Stops (PartForm element room) ts) (add_elem room inner l k m)
  add_elem_sound l ts k m h =
      let le : depth k.tree ≤ room = omega (arith, h.part.sized, h.part.shallow) in
      mark_holds Colon _ _ m
      (λ s rest e. after (frame_to Colon s (frame_standing k.spot k.tree ts m h.begins h.part.spells) e)
      (short_item (omega (arith, le, depth_positive k.tree item h.part.fits))) (keyed_form k h.part.fits le)
      (bind (item_sound rest)
      (λ x r g. good (record {
        read = of_tree (keyed k.spot k.tree x.tree) k.spot (max k.depth x.depth);
        part = record {
          spells = (m, rest, h.begins, h.part.spells, record { spot = s; is = e }, g.part.spells);
          fits = (refl, h.part.fits, g.part.fits);
          sized = rw (h.part.sized, g.part.sized) refl;
          shallow = omega (arith, h.part.shallow, g.part.shallow);
        };
        added = refl;
      }))
      (λ r g. g)))
      (λ _. good (record { read = k; part = record { spells = h.part.spells; fits = item_element k.tree h.part.fits; sized = h.part.sized; shallow = h.part.shallow }; added = refl }))

  elem_sound : (l : Listed Tree) (ts : List Word) → Holds (IsAdded room l ts) (Stops (PartForm element room) ts) (elem room inner l ts)
  unfolding elem
  elem_sound l ts = bind (item_sound ts) (λ k m h. add_elem_sound l ts k m h) (λ r g. stops_as g (element_form room))

  -- ---- all of them

  module _ (ts : List Word) where
    record ElemsAt (l : Listed Tree) (ws : List Word) : Type 0 where
      state : Framed (Going RBrace l.items) ts ws
      are : AreParts element room l.items l.depth

    abbrev Fault : List Word → Type 0
    Fault r = Stops (ElemsForm (suc room)) ts r

    elems_form : (us ws : List Word) → ListForm RBrace false element room us ws → ElemsForm (suc room) us ws
    elems_form us ws h = record { all = trees h.items; spells = h.spells; fits = h.fits; shallow = omega (arith, h.shallow) }

    fault : (r : List Word) → Begun (ListForm RBrace false element room) ts r → Fault r
    fault r g = inr (begun_as g elems_form)

    elems_read : (l : Listed Tree) (r : List Word) → ElemsAt l r → (last : List Word) → Closes Comma RBrace r last → AreElemsRead (suc room) ts l last
    elems_read l r j last c = record { spells = going_end RBrace l.items last j.state c; fits = j.are.fits; sized = j.are.sized; shallow = omega (arith, j.are.shallow) }

    next_elem : (l : Listed Tree) (s : Spot) (ws n : List Word) → ElemsAt l ws → ws ≡ mark Comma s ∷ n → Holds ElemsAt Fault (elem room inner l n)
    next_elem l s ws n j e = mono (elem_sound l n)
        (λ all r h. subst (λ (v : Listed Tree). ElemsAt v r) (sym h.added) (record {
          state = going_next RBrace l.items h.read.tree j.state (next (frame_mark Comma ws n (record { spot = s; is = e })) (frame h.read.tree n r h.part.spells));
          are = parts_add element room l.items l.depth n h.read r j.are h.part;
        }))
        (λ r g. fault r (going_begun RBrace element room l.items l.depth j.are j.state (tail_stops RBrace element room s ws n r e g)))

    first_elem : Holds ElemsAt Fault (elem room inner empty ts)
    first_elem = mono (elem_sound empty ts)
        (λ all r h. subst (λ (v : Listed Tree). ElemsAt v r) (sym h.added) (record {
          state = going_first RBrace h.read.tree (frame h.read.tree ts r h.part.spells);
          are = parts_add element room [] 0 ts h.read r (no_parts element room) h.part;
        }))
        (λ r g. stops_as (first_stops RBrace element room ts r g) elems_form)

    keeps : KeepsParts Comma RBrace any_end (elem room inner) elem_steady ElemsAt (AreElemsRead (suc room) ts) Fault
    keeps = record {
      part = λ l s ws n j must e. next_elem l s ws n j e;
      last = λ l ws r j may c. elems_read l ws j r c;
      stuck = λ l ws j. fault ws (going_begun RBrace element room l.items l.depth j.are j.state (tail_none RBrace element room ws));
      stuck_separated = λ l s ws r j must e. fault r (going_begun RBrace element room l.items l.depth j.are j.state (tail_separated RBrace element room s ws r e));
    }

    pub braces_sound : Holds (AreElemsRead (suc room) ts) (Stops (ElemsForm (suc room)) ts) (braces room inner ts)
    unfolding braces
    braces_sound = parts_holds Comma RBrace any_end (elem room inner) elem_steady ElemsAt (AreElemsRead (suc room) ts) Fault keeps empty ts
        (λ _. first_elem) (λ s r may e. record { spells = (refl, record { spot = s; is = e }); fits = tt; sized = refl; shallow = omega arith })
