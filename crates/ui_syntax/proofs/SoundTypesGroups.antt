-- Groups of names with their types, as they are read: their order, places and depth.
use Rattle.std.proofs.Common.{◌≡◌, ℕ, max, ◌≤◌, Bool, true, false, ◌&&◌, ◌||◌, List, [], ◌∷◌, ◌++◌, refl, sym, ap, subst, arith}
use Rattle.ui_scan.specs.declared.kind.TokenKind.{TokenKind}
use Rattle.ui_tree.specs.declared.part.Placed.{Placed}
use Rattle.ui_tree.specs.declared.part.Group.{Group}
use Rattle.ui_tree.specs.Tree.{TypeTree, Groups, group_and}
use Rattle.ui_tree.specs.View.{groups, names, kept}
use Rattle.ui_grammar.specs.Word.{Word, Mark}
use Rattle.ui_grammar.specs.Both.{no_names}
use Rattle.ui_grammar.specs.Spells.{Labels, SpellsType, SpellsGroups, SpellsGroupsTail}
use Rattle.ui_grammar.specs.Fits.{TypePlace, plain_type, type_depth, groups_depth, all_named, all_bare, FitsType, FitsGroups}
use Rattle.ui_grammar.proofs.Frames.{Spelling}
use Rattle.ui_syntax.specs.Types.{group, as_types, bare_depth}

-- ---- names as they were read

pub names_kept : (ns : List Placed) → names kept ns ≡ ns
names_kept [] = refl
names_kept (n ∷ ns) = ap (λ (v : List Placed). n ∷ v) (names_kept ns)

pub labels_kept : (ns : List Placed) (ts rest : List Word) → Labels ns ts rest → Labels (names kept ns) ts rest
labels_kept ns ts rest h = subst (λ (v : List Placed). Labels v ts rest) (sym (names_kept ns)) h

-- ---- lists with a separator and a closing mark

module _ (separator close : TokenKind) where
  abbrev pub GroupsTail : List (Group TypeTree) → Spelling
  GroupsTail us = SpellsGroupsTail separator close (groups kept us)

  abbrev pub AllGroups : List (Group TypeTree) → Spelling
  AllGroups us = SpellsGroups separator close (groups kept us)

  pub groups_of : (ns : List Placed) (t : TypeTree) (us : List (Group TypeTree)) (ts a b rest : List Word) → Labels ns ts a → SpellsType t a b → GroupsTail us b rest → AllGroups (group ns t ∷ us) ts rest
  groups_of ns t us ts a b rest h s g = (a, b, labels_kept ns ts a h, s, g)

  pub groups_tail_of : (ns : List Placed) (t : TypeTree) (us : List (Group TypeTree)) (ts m a b rest : List Word) → Mark separator ts m → Labels ns m a → SpellsType t a b → GroupsTail us b rest → GroupsTail (group ns t ∷ us) ts rest
  groups_tail_of ns t us ts m a b rest k h s g = (m, a, b, k, labels_kept ns m a h, s, g)

-- ---- what holds of each of them

pub fits_groups_append : (us vs : List (Group TypeTree)) (q : TypePlace) → FitsGroups (groups kept us) q → FitsGroups (groups kept vs) q → FitsGroups (groups kept (us ++ vs)) q
fits_groups_append [] vs q h g = g
fits_groups_append (u ∷ us) vs q h g = (h.0, fits_groups_append us vs q h.1 g)

pub groups_depth_append : (us vs : List (Group TypeTree)) → groups_depth (groups kept (us ++ vs)) ≡ max (groups_depth (groups kept us)) (groups_depth (groups kept vs))
groups_depth_append [] vs = omega arith
groups_depth_append (u ∷ us) vs = omega (arith, groups_depth_append us vs)

pub and_true : (b c : Bool) → b ≡ true → c ≡ true → (b && c) ≡ true
and_true b c e h = rw (e, h) refl

pub and_left : (b c : Bool) → (b && c) ≡ true → b ≡ true
and_left true c e = refl
and_left false c e = absurd cc

pub and_right : (b c : Bool) → (b && c) ≡ true → c ≡ true
and_right true c e = e
and_right false c e = absurd cc

pub or_left : (b c : Bool) → b ≡ true → (b || c) ≡ true
or_left b c e = rw e refl

pub or_right : (b c : Bool) → c ≡ true → (b || c) ≡ true
or_right true c e = refl
or_right false c e = e

pub bare_append : (us vs : List (Group TypeTree)) → all_bare (groups kept us) ≡ true → all_bare (groups kept vs) ≡ true → all_bare (groups kept (us ++ vs)) ≡ true
bare_append [] vs h g = g
bare_append (u ∷ us) vs h g = and_true (no_names (names kept u.names)) (all_bare (groups kept (us ++ vs))) (and_left _ _ h) (bare_append us vs (and_right (no_names (names kept u.names)) _ h) g)

-- a group with names, before these
named_tail : (ns : List Placed) (t : TypeTree) (gs : Groups) → all_named (group_and ns t gs) ≡ true → all_named gs ≡ true
named_tail [] t gs e = absurd cc
named_tail (n ∷ ns) t gs e = e

named_before : (ns : List Placed) (t : TypeTree) (gs more : Groups) → all_named (group_and ns t gs) ≡ true → all_named more ≡ true → all_named (group_and ns t more) ≡ true
named_before [] t gs more e h = absurd cc
named_before (n ∷ ns) t gs more e h = h

pub named_append : (us vs : List (Group TypeTree)) → all_named (groups kept us) ≡ true → all_named (groups kept vs) ≡ true → all_named (groups kept (us ++ vs)) ≡ true
named_append [] vs h g = g
named_append (u ∷ us) vs h g = named_before (names kept u.names) u.of (groups kept us) (groups kept (us ++ vs)) h (named_append us vs (named_tail (names kept u.names) u.of (groups kept us) h) g)

pub filled : (ns : List Placed) (p : Placed) (t : TypeTree) (gs : List (Group TypeTree)) → all_named (groups kept gs) ≡ true → all_named (groups kept (group (ns ++ (p ∷ [])) t ∷ gs)) ≡ true
filled [] p t gs h = h
filled (n ∷ ns) p t gs h = h

-- ---- lists of groups that fit within a depth

pub record AreFit (b : ℕ) (gs : List (Group TypeTree)) : Type 0 where
  pub fits : FitsGroups (groups kept gs) plain_type
  pub shallow : groups_depth (groups kept gs) ≤ b

pub fit_none : (b : ℕ) → AreFit b []
fit_none b = record { fits = tt; shallow = omega arith }

pub fit_one : (b : ℕ) (ns : List Placed) (t : TypeTree) → FitsType t plain_type → type_depth t ≤ b → AreFit b (group ns t ∷ [])
fit_one b ns t h le = record { fits = (h, tt); shallow = omega (arith, le) }

pub fit_append : (b : ℕ) (us vs : List (Group TypeTree)) → AreFit b us → AreFit b vs → AreFit b (us ++ vs)
fit_append b us vs h g = record { fits = fits_groups_append us vs plain_type h.fits g.fits; shallow = omega (arith, groups_depth_append us vs, h.shallow, g.shallow) }

-- ---- names that are types

pub bare_types : (ps : List Placed) → all_bare (groups kept (as_types ps)) ≡ true
bare_types [] = refl
bare_types (p ∷ ps) = bare_types ps

pub fits_types_of : (ps : List Placed) → FitsGroups (groups kept (as_types ps)) plain_type
fits_types_of [] = tt
fits_types_of (p ∷ ps) = ((refl, tt), fits_types_of ps)

pub depth_of_types : (ps : List Placed) → groups_depth (groups kept (as_types ps)) ≡ bare_depth ps
depth_of_types [] = refl
depth_of_types (p ∷ []) = omega arith
depth_of_types (p ∷ (q ∷ ps)) = omega (arith, depth_of_types (q ∷ ps))

pub fit_types_of : (b : ℕ) (ps : List Placed) → 1 ≤ b → AreFit b (as_types ps)
fit_types_of b ps le = record { fits = fits_types_of ps; shallow = omega (arith, depth_of_types ps, at_most ps) }
  where
    at_most : (ps : List Placed) → bare_depth ps ≤ 1
    at_most [] = omega arith
    at_most (p ∷ ps) = omega arith
