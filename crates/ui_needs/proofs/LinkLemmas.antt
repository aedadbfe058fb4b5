-- Loops over declarations.
use Rattle.std.proofs.Common.{◌≡◌, ℕ, ◌+◌, ◌*◌, ◌<◌, ◌≤◌, List, [], ◌∷◌, ◌++◌, map, drop, length}
use Rattle.std.proofs.Common.{get_or, refl, sym, ap, ◌∙◌, append_assoc}
use Rattle.std.proofs.lemmas.List.{append-nil}
use Rattle.std.specs.Prelude.{Vec, Some, true, false, not, ◌&&◌, bytes_eq, if◌then◌else◌}
use Rattle.ui_collect.specs.Names.{is_blank, is_init}
use Rattle.std.specs.declared.alloc.Global.{Global}
use Rattle.ui_base.proofs.StepLemmas.{turn, no_turn, pushed}
use Rattle.ui_collect.specs.declared.items.Item.{Item}
use Rattle.ui_collect.specs.Views.{item_view, what_view}
use Rattle.ui_needs.specs.declared.numbers.Nodes.{Nodes}
use Rattle.ui_needs.specs.Needs.{Numbers}
use Rattle.ui_needs.specs.Links.{nodes_at, no_numbers, with_number, numbers_from, numbers_of}
use Rattle.ui_needs.specs.Links.{meaning_needs, under_needs, links_from, links_of}
use Rattle.ui_needs.specs.Views.{lists}

-- ---- numbers

pub number_added : (old new : Numbers) (name : List ℕ) (nodes : Nodes) (k : ℕ)
    → (not (is_blank name) && not (is_init name)) ≡ true
    → ((n : List ℕ) → new n ≡ (if bytes_eq n name then Some nodes else old n))
    → nodes ≡ nodes_at k → new ≡ with_number old k name
number_added old new name nodes k r h e = λ i n.
    (h n ∙ ap (λ p. if bytes_eq n name then Some p else old n) e
    ∙ ap (λ b. if b && bytes_eq n name then Some (nodes_at k) else old n) (sym r)) i

pub number_left : (old : Numbers) (name : List ℕ) (k : ℕ)
    → (not (is_blank name) && not (is_init name)) ≡ false → old ≡ with_number old k name
number_left old name k r = λ i n.
    ap (λ b. if b && bytes_eq n name then Some (nodes_at k) else old n) (sym r) i

-- so many declarations have their nodes
pub record Numbered (ds : List Item) (at : Numbers) (i : ℕ) : Type 0 where
  pub rest : numbers_of (map item_view ds) ≡ numbers_from at i (map item_view (drop i ds))

module _ (ds : List Item) (at : Numbers) where
  pub Numbered-start : at ≡ no_numbers → Numbered ds at 0
  unfolding numbers_of
  Numbered-start e = record { rest = ap (λ a. numbers_from a 0 (map item_view ds)) (sym e) }

  pub Numbered-more : (next : Numbers) (i : ℕ) (d : Item) → Numbered ds at i → i < length ds
      → d ≡ get_or ds i d → next ≡ with_number at i d.name.now.text → Numbered ds next (i + 1)
  Numbered-more next i d n h is e = record {
    rest = n.rest ∙ ap (numbers_from at i) (turn item_view ds i d h is)
        ∙ ap (λ a. numbers_from a (i + 1) (map item_view (drop (i + 1) ds))) (sym e);
  }

  pub Numbered-end : (i : ℕ) → Numbered ds at i → length ds ≤ i → at ≡ numbers_of (map item_view ds)
  Numbered-end i n h = sym (n.rest ∙ ap (numbers_from at i) (no_turn item_view ds i h))

-- ---- links

-- so many declarations have their links
pub record Linked (at : Numbers) (ds : List Item) (found : List (List ℕ)) (i : ℕ) : Type 0 where
  pub rest : links_from at 0 (map item_view ds) ≡ found ++ links_from at i (map item_view (drop i
      ds))

module _ (at : Numbers) (ds : List Item) (found : List (List ℕ)) where
  pub Linked-start : found ≡ [] → Linked at ds found 0
  Linked-start e = record { rest = ap (λ f. f ++ links_from at 0 (map item_view ds)) (sym e) }

  pub Linked-more : (next : List (List ℕ)) (i : ℕ) (d : Item) → Linked at ds found i → i < length ds
      → d ≡ get_or ds i d
      → next ≡ found ++ meaning_needs at (what_view d.what) ∷ under_needs at i (what_view d.what)
      ∷ []
      → Linked at ds next (i + 1)
  Linked-more next i d l h is e = record {
    rest = l.rest ∙ ap (λ xs. found ++ links_from at i xs) (turn item_view ds i d h is)
        ∙ sym (append_assoc found (meaning_needs at (what_view d.what) ∷ under_needs at i
        (what_view d.what) ∷ []) (links_from at (i + 1) (map item_view (drop (i + 1) ds))))
        ∙ ap (λ f. f ++ links_from at (i + 1) (map item_view (drop (i + 1) ds))) (sym e);
  }

  pub Linked-end : (i : ℕ) → Linked at ds found i → length ds ≤ i
      → found ≡ links_from at 0 (map item_view ds)
  Linked-end i l h = sym (l.rest ∙ ap (λ xs. found ++ links_from at i xs) (no_turn item_view ds i
      h) ∙ append-nil found)

pub links_end : (at : Numbers) (ds : List Item) → at ≡ numbers_of (map item_view ds)
    → links_from at 0 (map item_view ds) ≡ links_of (map item_view ds)
unfolding links_of
links_end at ds e = ap (λ a. links_from a 0 (map item_view ds)) e

-- two lists more
pub lists_two : (a b c : List (Vec ℕ Global)) (v w : Vec ℕ Global) (x y : List ℕ) → b ≡ a ++ v ∷ []
    → c ≡ b ++ w ∷ [] → v.items ≡ x → w.items ≡ y → lists c ≡ lists a ++ x ∷ y ∷ []
lists_two a b c v w x y h k p q =
    pushed (λ u. u.items) b c w k
    ∙ ap (λ l. l ++ w.items ∷ []) (pushed (λ u. u.items) a b v h)
    ∙ append_assoc (lists a) (v.items ∷ []) (w.items ∷ [])
    ∙ ap (λ z. lists a ++ z ∷ w.items ∷ []) p
    ∙ ap (λ z. lists a ++ x ∷ z ∷ []) q

pub ruleset numbering = (number_added, number_left, Numbered-start, Numbered-more, Numbered-end)

pub ruleset linking = (Linked-start, Linked-more, Linked-end, links_end, lists_two)
