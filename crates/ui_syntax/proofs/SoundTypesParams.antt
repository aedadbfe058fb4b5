-- Parameters up to a place: what they are, and how each further part makes a list of them.
use Rattle.std.proofs.Common.{◌≡◌, ℕ, ◌≤◌, Bool, true, false, not, ◌&&◌, ◌||◌, List, [], ◌∷◌, ◌++◌, None, refl, sym, ap, ◌∙◌, append_assoc, arith}
use Rattle.std.proofs.lemmas.List.{append-nil, map-append}
use Rattle.ui_base.specs.declared.value.Spot.{Spot}
use Rattle.ui_scan.specs.declared.kind.TokenKind.TheVariants.{RParen, Comma}
use Rattle.ui_tree.specs.declared.part.Placed.{Placed}
use Rattle.ui_tree.specs.declared.part.Group.{Group}
use Rattle.ui_tree.specs.Tree.{TypeTree, named, no_args}
use Rattle.ui_tree.specs.View.{groups, kept}
use Rattle.ui_grammar.specs.Word.{Word, ident, mark, Named, NamesTail, Names}
use Rattle.ui_grammar.specs.Spells.{SpellsType}
use Rattle.ui_grammar.specs.Fits.{plain_type, type_depth, groups_depth, all_named, all_bare, FitsType, FitsGroups}
use Rattle.ui_grammar.proofs.Frames.{Spelling, Then, framed, fill_word, frame_mark, frame_type}
use Rattle.ui_syntax.specs.declared.site.Style.{Style}
use Rattle.ui_syntax.specs.declared.site.Style.TheVariants as style
use Rattle.ui_syntax.specs.Types.{Params, no_params, Listed, group, bare_group, as_types, is_empty, bare_depth, add_type, add_named, add_name, is_named, params_ending}
use Rattle.ui_syntax.specs.Cover.{Read}
use Rattle.ui_syntax.proofs.Runs.{Lead, lead_next, lead_as, lead_same, Run}
use Rattle.ui_syntax.proofs.SoundTypesGroups.{GroupsTail, AllGroups, groups_tail_of, fits_groups_append, groups_depth_append, bare_append, named_append, filled, bare_types, depth_of_types, fits_types_of, labels_kept}

abbrev pub Tail : List (Group TypeTree) → Spelling
Tail = GroupsTail Comma RParen

abbrev pub Whole : List (Group TypeTree) → Spelling
Whole = AllGroups Comma RParen

abbrev pub is_bare : Style → Bool
is_bare style.Open = false
is_bare style.Bare = true
is_bare style.Named = false

-- ---- what goes on a list of parameters

-- a type, and what follows it
pub record Bare : Type 0 where
  pub of : TypeTree
  pub others : List (Group TypeTree)

abbrev pub Bares : Bare → Spelling
Bares x ts rest = (a : List Word) × SpellsType x.of ts a × Tail x.others a rest

-- names with their type, and what follows them
pub record Labelled : Type 0 where
  pub name : Placed
  pub names : List Placed
  pub of : TypeTree
  pub others : List (Group TypeTree)

abbrev pub Labels_of : Labelled → Spelling
Labels_of x ts rest = (a b : List Word) × Names (x.name ∷ x.names) ts a × SpellsType x.of a b × Tail x.others b rest

-- further names, or none where some wait, with their type
pub record More : Type 0 where
  pub names : List Placed
  pub of : TypeTree
  pub others : List (Group TypeTree)

abbrev pub Mores : List Placed → More → Spelling
Mores waiting x ts rest = (a b : List Word) × (is_empty (waiting ++ x.names) ≡ false) × NamesTail x.names ts a × SpellsType x.of a b × Tail x.others b rest

-- ---- what was read

abbrev pub StyleOk : Style → List (Group TypeTree) → List Placed → Type 0
StyleOk style.Open gs waiting = gs ≡ []
StyleOk style.Bare gs waiting = (waiting ≡ []) × (all_bare (groups kept gs) ≡ true)
StyleOk style.Named gs waiting = all_named (groups kept gs) ≡ true

module _ (room : ℕ) where
  pub record Facts (ps : Params) : Type 0 where
    pub fits : FitsGroups (groups kept ps.groups) plain_type
    pub sized : groups_depth (groups kept ps.groups) ≡ ps.depth
    pub shallow : ps.depth ≤ room
    pub styled : StyleOk ps.style ps.groups ps.waiting

  -- before a parameter
  pub record Before (ps : Params) (ts ws : List Word) : Type 0 where
    pub bare : is_named ps.style ≡ false → Lead Bares Whole (λ x. (ps.groups ++ as_types ps.waiting) ++ (group [] x.of ∷ x.others)) ts ws
    pub named : is_bare ps.style ≡ false → Lead Labels_of Whole (λ x. ps.groups ++ (group (ps.waiting ++ (x.name ∷ x.names)) x.of ∷ x.others)) ts ws
    pub facts : Facts ps

  -- behind one
  pub record After (ps : Params) (ts ws : List Word) : Type 0 where
    pub items : params_ending.may ps ≡ true → Run Tail Whole (ps.groups ++ as_types ps.waiting) ts ws
    pub named : is_bare ps.style ≡ false → Lead (Mores ps.waiting) Whole (λ x. ps.groups ++ (group (ps.waiting ++ x.names) x.of ∷ x.others)) ts ws
    pub facts : Facts ps
    pub some : 1 ≤ room

  -- ---- at first

  pub before_all : (ts : List Word) → Before no_params ts ts
  before_all ts = record {
    bare = λ _. record { front = []; parts = refl; again = λ x k rest h. (k, h.0, refl, h.1, h.2) };
    named = λ _. record { front = []; parts = refl; again = λ x k rest h. (h.0, h.1, labels_kept (x.name ∷ x.names) k h.0 h.2, h.3, h.4) };
    facts = record { fits = tt; sized = refl; shallow = omega arith; styled = refl };
  }

  -- ---- behind a separator

  may_end : (ps : Params) → is_named ps.style ≡ false → params_ending.may ps ≡ true
  may_end ps e = rw e refl

  filled_by : (waiting : List Placed) (p : Placed) (ps : List Placed) → is_empty (waiting ++ (p ∷ ps)) ≡ false
  filled_by [] p ps = refl
  filled_by (w ∷ waiting) p ps = refl

  pub separated : (ps : Params) (x : Spot) (ts a ws : List Word) → After ps ts a → a ≡ mark Comma x ∷ ws → Before ps ts ws
  separated ps x ts a ws j e =
      let comma = frame_mark Comma a ws (record { spot = x; is = e }) in
      record {
        bare = λ h. lead_next (λ us. (ps.groups ++ as_types ps.waiting) ++ us) (λ x. group [] x.of ∷ x.others) ts a ws (j.items (may_end ps h)) comma
            (λ x m k rest s g. groups_tail_of Comma RParen [] x.of x.others m k k g.0 rest s refl g.1 g.2);
        named = λ h. lead_next {S = Mores ps.waiting} {S2 = Labels_of} (λ x. ps.groups ++ (group (ps.waiting ++ x.names) x.of ∷ x.others)) (λ x. record { names = x.name ∷ x.names; of = x.of; others = x.others }) ts a ws (j.named h) comma
            (λ x m k rest s g. (g.0, g.1, filled_by ps.waiting x.name x.names, (k, g.2.0, s, g.2.1, g.2.2), g.3, g.4));
        facts = j.facts;
      }

  -- ---- a parameter more

  types_are_bare : (ps : Params) → is_named ps.style ≡ false → StyleOk ps.style ps.groups ps.waiting → all_bare (groups kept ps.groups) ≡ true
  types_are_bare ps e h = by_style ps.style e h
    where
      by_style : (s : Style) → is_named s ≡ false → StyleOk s ps.groups ps.waiting → all_bare (groups kept ps.groups) ≡ true
      by_style style.Open e h = rw h refl
      by_style style.Bare e h = h.1
      by_style style.Named e h = absurd cc

  names_are_named : (ps : Params) → is_bare ps.style ≡ false → StyleOk ps.style ps.groups ps.waiting → all_named (groups kept ps.groups) ≡ true
  names_are_named ps e h = by_style ps.style e h
    where
      by_style : (s : Style) → is_bare s ≡ false → StyleOk s ps.groups ps.waiting → all_named (groups kept ps.groups) ≡ true
      by_style style.Open e h = rw h refl
      by_style style.Bare e h = absurd cc
      by_style style.Named e h = h

  pub bare_items : (ps : Params) → is_named ps.style ≡ false → Facts ps → all_bare (groups kept (ps.groups ++ as_types ps.waiting)) ≡ true
  bare_items ps e f = bare_append ps.groups (as_types ps.waiting) (types_are_bare ps e f.styled) (bare_types ps.waiting)

  pub named_items : (ps : Params) → is_bare ps.style ≡ false → Facts ps → all_named (groups kept ps.groups) ≡ true
  named_items ps e f = names_are_named ps e f.styled

  pub waiting_le : (ws : List Placed) → 1 ≤ room → bare_depth ws ≤ room
  waiting_le [] le = omega arith
  waiting_le (w ∷ ws) le = le

  -- one more at the end of a list, and then the others
  one_then : (xs : List (Group TypeTree)) (g : Group TypeTree) (us : List (Group TypeTree)) → xs ++ (g ∷ us) ≡ ((xs ++ (g ∷ [])) ++ []) ++ us
  one_then xs g us = sym (append_assoc xs (g ∷ []) us) ∙ ap (λ (v : List (Group TypeTree)). v ++ us) (sym (append-nil (xs ++ (g ∷ []))))

  -- a type
  pub type_added : (ps : Params) (t : Read TypeTree) (ts a ws : List Word) → Before ps ts a → 1 ≤ room → is_named ps.style ≡ false → SpellsType t.tree a ws → FitsType t.tree plain_type → type_depth t.tree ≡ t.depth → t.depth ≤ room
      → After (add_type ps t) ts ws
  type_added ps t ts a ws j some e spells fits sized shallow = record {
    items = λ _. lead_same (λ us. (ps.groups ++ as_types ps.waiting) ++ (group [] t.tree ∷ us)) (λ us. (((ps.groups ++ as_types ps.waiting) ++ (group [] t.tree ∷ [])) ++ []) ++ us) ts ws
        (lead_next {S = Bares} {S2 = Tail} (λ x. (ps.groups ++ as_types ps.waiting) ++ (group [] x.of ∷ x.others)) (λ us. record { of = t.tree; others = us }) ts a ws (j.bare e) (frame_type t.tree a ws spells) (λ us m k rest s g. (k, s, g)))
        (λ us. one_then (ps.groups ++ as_types ps.waiting) (group [] t.tree) us);
    named = λ h. absurd cc;
    facts = record {
      fits = fits_groups_append (ps.groups ++ as_types ps.waiting) (group [] t.tree ∷ []) plain_type (fits_groups_append ps.groups (as_types ps.waiting) plain_type j.facts.fits (fits_types_of ps.waiting)) (fits, tt);
      sized = omega (arith, groups_depth_append (ps.groups ++ as_types ps.waiting) (group [] t.tree ∷ []), groups_depth_append ps.groups (as_types ps.waiting), depth_of_types ps.waiting, j.facts.sized, sized);
      shallow = omega (arith, j.facts.shallow, waiting_le ps.waiting some, shallow);
      styled = (refl, bare_append (ps.groups ++ as_types ps.waiting) (group [] t.tree ∷ []) (bare_items ps e j.facts) refl);
    };
    some = some;
  }

  -- behind a group with names others have names too
  further_names : (xs : List (Group TypeTree)) (ts ws : List Word) → Run Tail Whole (xs ++ []) ts ws → Lead (Mores []) Whole (λ x. xs ++ (group ([] ++ x.names) x.of ∷ x.others)) ts ws
  further_names xs ts ws run = lead_same (λ x. (xs ++ []) ++ (group x.names x.of ∷ x.others)) (λ x. xs ++ (group ([] ++ x.names) x.of ∷ x.others)) ts ws
      (lead_as {S = Tail} {S2 = Mores []} (λ us. (xs ++ []) ++ us) (λ x. group x.names x.of ∷ x.others) ts ws run (λ x k rest h. by_names x.names x.of x.others k rest h))
      (λ x. ap (λ (v : List (Group TypeTree)). v ++ (group x.names x.of ∷ x.others)) (append-nil xs))
    where
      by_names : (ns : List Placed) (t : TypeTree) (us : List (Group TypeTree)) (k rest : List Word) → Mores [] (record { names = ns; of = t; others = us }) k rest → Tail (group ns t ∷ us) k rest
      by_names [] t us k rest h = let e : true ≡ false = h.2 in absurd cc
      by_names (n ∷ ns) t us k rest h = groups_tail_of Comma RParen (n ∷ ns) t us k h.3.0 h.0 h.1 rest h.3.2 (h.3.1, h.3.3, h.3.4) h.4 h.5

  -- a name with its type
  pub named_added : (ps : Params) (p : Placed) (t : Read TypeTree) (ts a m ws : List Word) → Before ps ts a → 1 ≤ room → is_bare ps.style ≡ false → Named p a m → SpellsType t.tree m ws → FitsType t.tree plain_type → type_depth t.tree ≡ t.depth → t.depth ≤ room
      → After (add_named ps p t) ts ws
  named_added ps p t ts a m ws j some e name spells fits sized shallow =
      let g = group (ps.waiting ++ (p ∷ [])) t.tree in
      let lead = lead_next {S = Labels_of} {S2 = λ us. Then (SpellsType t.tree) (Tail us)} (λ x. ps.groups ++ (group (ps.waiting ++ (x.name ∷ x.names)) x.of ∷ x.others)) (λ us. record { name = p; names = []; of = t.tree; others = us }) ts a m (j.named e) (framed (fill_word (ident p) a m name))
      (λ us b k rest s h. (k, h.0, (k, s, refl), h.1, h.2)) in
      let items = lead_same (λ us. ps.groups ++ (g ∷ us)) (λ us. ((ps.groups ++ (g ∷ [])) ++ []) ++ us) ts ws
      (lead_next {S = λ us. Then (SpellsType t.tree) (Tail us)} {S2 = Tail} (λ us. ps.groups ++ (g ∷ us)) (λ us. us) ts m ws lead (frame_type t.tree m ws spells) (λ us b k rest s h. (k, s, h)))
      (λ us. one_then ps.groups g us) in
      record {
        items = λ _. items;
        named = λ _. further_names (ps.groups ++ (g ∷ [])) ts ws items;
        facts = record {
          fits = fits_groups_append ps.groups (g ∷ []) plain_type j.facts.fits (fits, tt);
          sized = omega (arith, groups_depth_append ps.groups (g ∷ []), j.facts.sized, sized);
          shallow = omega (arith, j.facts.shallow, shallow);
          styled = named_append ps.groups (g ∷ []) (named_items ps e j.facts) (filled ps.waiting p t.tree [] refl);
        };
        some = some;
      }

  -- a name alone
  pub name_added : (ps : Params) (p : Placed) (ts a ws : List Word) → Before ps ts a → 1 ≤ room → is_bare ps.style ≡ false → Named p a ws → After (add_name ps p) ts ws
  name_added ps p ts a ws j some e name =
      let word = framed (fill_word (ident p) a ws name) in
      record {
        items = λ may. lead_same (λ us. (ps.groups ++ as_types ps.waiting) ++ (bare_group p ∷ us)) (λ us. (ps.groups ++ as_types (ps.waiting ++ (p ∷ []))) ++ us) ts ws
            (lead_next {S = Bares} {S2 = Tail} (λ x. (ps.groups ++ as_types ps.waiting) ++ (group [] x.of ∷ x.others)) (λ us. record { of = named p None no_args; others = us }) ts a ws (j.bare (not_named ps.style may)) word
            (λ us m k rest s g. (k, (k, k, s, refl, refl), g)))
            (λ us. sym (append_assoc (ps.groups ++ as_types ps.waiting) (bare_group p ∷ []) us)
            ∙ ap (λ (v : List (Group TypeTree)). v ++ us) (append_assoc ps.groups (as_types ps.waiting) (bare_group p ∷ []) ∙ ap (λ (v : List (Group TypeTree)). ps.groups ++ v) (sym (map-append bare_group ps.waiting (p ∷ [])))));
        named = λ _. lead_same (λ x. ps.groups ++ (group (ps.waiting ++ (p ∷ x.names)) x.of ∷ x.others)) (λ x. ps.groups ++ (group ((ps.waiting ++ (p ∷ [])) ++ x.names) x.of ∷ x.others)) ts ws
            (lead_next {S = Labels_of} {S2 = Mores (ps.waiting ++ (p ∷ []))} (λ x. ps.groups ++ (group (ps.waiting ++ (x.name ∷ x.names)) x.of ∷ x.others)) (λ x. record { name = p; names = x.names; of = x.of; others = x.others }) ts a ws (j.named e) word
            (λ x m k rest s g. (g.0, g.1, (k, s, g.3), g.4, g.5)))
            (λ x. ap (λ (v : List Placed). ps.groups ++ (group v x.of ∷ x.others)) (sym (append_assoc ps.waiting (p ∷ []) x.names)));
        facts = record { fits = j.facts.fits; sized = j.facts.sized; shallow = j.facts.shallow; styled = by_style ps.style e j.facts.styled };
        some = some;
      }
    where
      not_named : (s : Style) → not (is_named s && not (is_empty (ps.waiting ++ (p ∷ [])))) ≡ true → is_named s ≡ false
      not_named style.Open may = refl
      not_named style.Bare may = refl
      not_named style.Named may = absurd (clash (is_empty (ps.waiting ++ (p ∷ []))) may (filled_by ps.waiting p []))
        where
          clash : (b : Bool) → not (not b) ≡ true → b ≡ false → ⊥
          clash true h g = absurd cc
          clash false h g = absurd cc

      by_style : (s : Style) → is_bare s ≡ false → StyleOk s ps.groups ps.waiting → StyleOk s ps.groups (ps.waiting ++ (p ∷ []))
      by_style style.Open e h = h
      by_style style.Bare e h = absurd cc
      by_style style.Named e h = h

  -- ---- at the end

  pub record ParamsRead (ts : List Word) (l : Listed (Group TypeTree)) (rest : List Word) : Type 0 where
    pub spells : Whole l.items ts rest
    pub styled : (all_named (groups kept l.items) || all_bare (groups kept l.items)) ≡ true
    pub fits : FitsGroups (groups kept l.items) plain_type
    pub sized : groups_depth (groups kept l.items) ≡ l.depth
    pub shallow : l.depth ≤ room
