-- Imports and type declarations are read. Behind a name's bracket, that neither reading of it goes past what the other one
-- closes is a hypothesis here.
use Rattle.std.proofs.Common.{◌≡◌, ℕ, suc, max, ◌<◌, ◌≤◌, Bool, true, false, cond, List, ◌∷◌, length, Option, Some, None, Ok, Err, refl, sym, ap, subst, ◌∙◌, arith}
use Rattle.std.specs.Prelude.{nat_le}
use Rattle.std.proofs.lemmas.Bool.{leb-true, leb-false}
use Rattle.ui_base.specs.declared.value.Spot.{Spot}
use Rattle.ui_base.specs.declared.value.Value.TheVariants as value
use Rattle.ui_scan.specs.declared.kind.TokenKind.TheVariants.{LParen, RParen, LBracket, RBracket, Assign}
use Rattle.ui_tree.specs.declared.part.Placed.{Placed}
use Rattle.ui_tree.specs.declared.part.LiteralKind.TheVariants.{Text}
use Rattle.ui_tree.specs.Tree.{TypeTree, named, parenthesized, pointer, slice, array, counted, mapping, func, listed, struct, interface, method, union, tilde, Groups, groups_end, group_and, Tree}
use Rattle.ui_tree.specs.Stmt.{Imported, TypeGroup}
use Rattle.ui_grammar.specs.Word.{Word, lit, mark, Mark, Named, Quoted}
use Rattle.ui_grammar.specs.Both.{is_length}
use Rattle.ui_grammar.specs.Spells.{Spells, SpellsType}
use Rattle.ui_grammar.specs.Fits.{plain, plain_type, depth, type_depth, groups_depth, Fits, FitsType}
use Rattle.ui_grammar.specs.Declaration.{MaybeNamed, SpellsImported, SpellsTypeParams, SpellsTypeHead, SpellsTypeGroup, FitsTypeParams, FitsTypeGroup, type_group_depth}
use Rattle.ui_grammar.proofs.Frames.{fill_type, shorter}
use Rattle.ui_parse.specs.Reader.{Outcome, Reader, and_then, pure, first, marked, named as a_name, expect_name, rest_of}
use Rattle.ui_parse.proofs.Outcomes.{take_mark, take_other, take_ident, take_passes, expect_name_ident}
use Rattle.ui_syntax.specs.declared.site.TypeSite.TheVariants as at
use Rattle.ui_syntax.specs.Cover.{Read}
use Rattle.ui_syntax.specs.Types.{some, or_refuse, plain_type as read_plain, maybe_type, marked_type, bracket_type}
use Rattle.ui_syntax.specs.Read.{readers, type}
use Rattle.ui_syntax.proofs.Quiet.{quiet_type_stop}
use Rattle.ui_syntax.proofs.Places.{type_positive}
use Rattle.ui_syntax.proofs.CompleteTypesBase.{not_type_first, groups_of_list}
use Rattle.ui_syntax.proofs.CompleteTypesLists.{room_is}
use Rattle.ui_syntax.proofs.CompleteTypesOperand.{at_deep}
use Rattle.ui_syntax.proofs.Complete.{type_complete}
use Rattle.ui_stmts.specs.Common.{Sized, sized}
use Rattle.ui_stmts.specs.Decls.{farther, a_string, expect_string, import_spec, plain_group, bracketed_group, generic_group, type_params_apart, type_spec}
use Rattle.ui_stmts.proofs.CompleteSpecs.{EndsSpec}
use Rattle.ui_stmts.proofs.CompleteTypeParams.{type_params_apart_read}

-- ---- imports

string_reads : (p : Placed) (ts rest : List Word) → Quoted p ts rest → expect_string ts ≡ Ok (p, rest)
string_reads p ts rest e = ap expect_string e ∙ take_passes a_string pure _ (lit Text p.spot (value.Str p.text)) rest p refl

import_by : (n : Option Placed) (p : Placed) (ts a rest : List Word) → MaybeNamed n ts a → Quoted p a rest → import_spec ts ≡ Ok (sized (record { name = n; path = p }) 0, rest)
unfolding import_spec
import_by None p ts a rest n e = take_other a_name _ _ ts (ap (first a_name) (n ∙ e)) ∙ rw (string_reads p ts rest (n ∙ e)) refl
import_by (Some q) p ts a rest n e = ap import_spec n ∙ take_ident _ _ q a ∙ rw (string_reads p a rest e) refl

pub import_reads : (i : Imported) (ts rest : List Word) → SpellsImported i ts rest → import_spec ts ≡ Ok (sized i 0, rest)
import_reads i ts rest (a, n, e) = import_by i.name i.path ts a rest n e

-- neither parenthesis stands there
abbrev pub NoParen : List Word → Type 0
NoParen ts = (first (marked LParen) ts ≡ None) × (first (marked RParen) ts ≡ None)

import_opens_by : (n : Option Placed) (p : Placed) (ts a rest : List Word) → MaybeNamed n ts a → Quoted p a rest → NoParen ts
import_opens_by None p ts a rest n e = (ap (first (marked LParen)) (n ∙ e), ap (first (marked RParen)) (n ∙ e))
import_opens_by (Some q) p ts a rest n e = (ap (first (marked LParen)) n, ap (first (marked RParen)) n)

pub import_opens : (i : Imported) (ts rest : List Word) → SpellsImported i ts rest → NoParen ts
import_opens i ts rest (a, n, e) = import_opens_by i.name i.path ts a rest n e

-- ---- what goes farther

first_wins : {A : Type 0} (p q : Reader A) (ws rest : List Word) (a : A) → p ws ≡ Ok (a, rest) → length rest ≤ length (rest_of (q ws)) → farther p q ws ≡ Ok (a, rest)
unfolding farther
first_wins p q ws rest a e le = by_test (nat_le (length (rest_of (p ws))) (length (rest_of (q ws)))) refl
  where
    by_test : (b : Bool) → nat_le (length (rest_of (p ws))) (length (rest_of (q ws))) ≡ b → cond b (p ws) (q ws) ≡ Ok (a, rest)
    by_test true t = e
    by_test false t = let lt = leb-false _ _ t in absurd (omega (arith, lt, le, ap (λ (o : Outcome _). length (rest_of o)) e))

second_wins : {A : Type 0} (p q : Reader A) (ws rest : List Word) (a : A) → q ws ≡ Ok (a, rest) → length rest < length (rest_of (p ws)) → farther p q ws ≡ Ok (a, rest)
unfolding farther
second_wins p q ws rest a e lt = by_test (nat_le (length (rest_of (p ws))) (length (rest_of (q ws)))) refl
  where
    by_test : (b : Bool) → nat_le (length (rest_of (p ws))) (length (rest_of (q ws))) ≡ b → cond b (p ws) (q ws) ≡ Ok (a, rest)
    by_test true t = let le = leb-true _ _ t in absurd (omega (arith, lt, le, ap (λ (o : Outcome _). length (rest_of o)) e))
    by_test false t = e

-- ---- a bracket's type

opened_refused : {A : Type 0} (o : Outcome A) → and_then (and_then o some) or_refuse ≡ o
opened_refused (Ok p) = refl
opened_refused (Err ws) = refl

bracket_is : (room : ℕ) (s : Spot) (ws : List Word) → 1 ≤ room → type (suc room) (mark LBracket s ∷ ws) ≡ bracket_type room (readers room) at.Plain s ws
unfolding readers maybe_type read_plain
bracket_is room s ws le =
    ap (λ (o : Outcome (Option (Read TypeTree))). and_then o or_refuse)
    (take_other a_name _ _ (mark LBracket s ∷ ws) refl ∙ at_deep room (readers room) at.Plain (marked_type room (readers room)) (mark LBracket s ∷ ws) refl refl refl ∙ rw (room_is 1 room le) (take_mark LBracket _ _ s ws))
    ∙ opened_refused (bracket_type room (readers room) at.Plain s ws)

-- a type without a bracket at first, or one with it
data Fronts (t : TypeTree) (ts : List Word) : Type 0 where
  no_bracket : first (marked LBracket) ts ≡ None → Fronts t ts
  a_slice : (x : Spot) (u : TypeTree) → t ≡ slice x u → Fronts t ts
  an_array : (x : Spot) (e : Tree) (u : TypeTree) → t ≡ array x e u → Fronts t ts

fronts : (t : TypeTree) (ts rest : List Word) → SpellsType t ts rest → FitsType t plain_type → Fronts t ts
fronts (named n m vs) ts rest s f = no_bracket (ap (first (marked LBracket)) s.2)
fronts (parenthesized x t) ts rest s f = no_bracket (ap (first (marked LBracket)) s.2)
fronts (pointer x t) ts rest s f = no_bracket (ap (first (marked LBracket)) s.1)
fronts (slice x t) ts rest s f = a_slice x t refl
fronts (array x e t) ts rest s f = an_array x e t refl
fronts (mapping x k t) ts rest s f = no_bracket (ap (first (marked LBracket)) s.4)
fronts (func x gs r) ts rest s f = no_bracket (ap (first (marked LBracket)) s.3)
fronts (struct x gs) ts rest s f = no_bracket (ap (first (marked LBracket)) s.2)
fronts (interface x us) ts rest s f = no_bracket (ap (first (marked LBracket)) s.2)
fronts (counted x t) ts rest s f = let e = f.0 in absurd cc
fronts (listed x gs) ts rest s f = let e = f.0 in absurd cc
fronts (method n gs r) ts rest s f = let e = f.0 in absurd cc
fronts (union x us) ts rest s f = let e = f.0 in absurd cc
fronts (tilde x t) ts rest s f = let e = f.0 in absurd cc

-- Neither reading goes past the bracket that the other one closes.
pub record StaysInside (room : ℕ) : Type 0 where
  pub past_length : (p : Placed) (e : Tree) (ts m c : List Word) → Spells e ts m → Mark RBracket m c → Fits e plain → depth e ≤ room → length c ≤ length (rest_of (generic_group room p ts))
  pub past_params : (p : Placed) (s : Spot) (gs : Groups) (ts c : List Word) → SpellsTypeParams (is_length gs) gs ts c → FitsTypeParams gs → groups_depth gs ≤ suc room → length c ≤ length (rest_of (bracketed_group room p s ts))

module _ (room : ℕ) (inside : StaysInside room) where
  abbrev Reads : Reader (Sized TypeGroup) → TypeGroup → List Word → List Word → Type 0
  Reads read t ts rest = read ts ≡ Ok (sized t (type_group_depth t), rest)

  same_group : (t u : TypeGroup) (j k : ℕ) (rest : List Word) → t ≡ u → j ≡ k → ◌≡◌ {A = Outcome (Sized TypeGroup)} (Ok (sized t j, rest)) (Ok (sized u k, rest))
  same_group t u j k rest e d = rw (e, d) refl

  plain_reads : (p : Placed) (alias : Bool) (t : TypeTree) (ts rest : List Word) → SpellsType t ts rest → FitsType t plain_type → type_depth t ≤ suc room → EndsSpec rest → Reads (plain_group room p alias) (record { name = p; params = groups_end; alias = alias; of = t }) ts rest
  plain_reads p alias t ts rest s f le ends =
      rw (type_complete (suc room) ts rest t s f le (quiet_type_stop t rest ends.stop)).is (same_group _ _ (type_depth t) (max 0 (type_depth t)) rest refl (omega arith))

  bracketed_reads : (p : Placed) (x : Spot) (t : TypeTree) (ts rest : List Word) → 1 ≤ room → SpellsType t (mark LBracket x ∷ ts) rest → FitsType t plain_type → type_depth t ≤ suc room → EndsSpec rest
      → Reads (bracketed_group room p x) (record { name = p; params = groups_end; alias = false; of = t }) ts rest
  bracketed_reads p x t ts rest some s f le ends =
      rw (sym (bracket_is room x ts some) ∙ (type_complete (suc room) (mark LBracket x ∷ ts) rest t s f le (quiet_type_stop t rest ends.stop)).is) (same_group _ _ (type_depth t) (max 0 (type_depth t)) rest refl (omega arith))

  generic_reads : (p : Placed) (gs : Groups) (t : TypeTree) (ts c rest : List Word) → SpellsTypeParams (is_length gs) gs ts c → FitsTypeParams gs → SpellsType t c rest → FitsType t plain_type → max (groups_depth gs) (type_depth t) ≤ suc room → EndsSpec rest
      → Reads (generic_group room p) (record { name = p; params = gs; alias = false; of = t }) ts rest
  generic_reads p gs t ts c rest h g s f le ends =
      rw (type_params_apart_read room gs ts c h g.0 g.1 (omega (arith, le)), (type_complete (suc room) c rest t s f (omega (arith, le)) (quiet_type_stop t rest ends.stop)).is)
      (same_group _ _ (max (groups_depth gs) (type_depth t)) (max (groups_depth gs) (type_depth t)) rest (ap (λ (v : Groups). record { name = p; params = v; alias = false; of = t }) (groups_of_list gs)) refl)

  -- no parameter's name stands there
  no_params : (p : Placed) (x : Spot) (ws : List Word) → generic_group room p (mark RBracket x ∷ ws) ≡ Err (mark RBracket x ∷ ws)
  unfolding type_params_apart expect_name
  no_params p x ws = rw (take_other a_name pure (λ v. Err v) (mark RBracket x ∷ ws) refl) refl

  no_assign : (t : TypeTree) (ts rest : List Word) → SpellsType t ts rest → FitsType t plain_type → first (marked Assign) ts ≡ None
  no_assign t ts rest s f = not_type_first Assign (λ _. refl) t ts rest s f

  at_type : (p : Placed) (t : TypeTree) (ts a rest : List Word) → Named p ts a → SpellsType t a rest → FitsType t plain_type → type_depth t ≤ suc room → EndsSpec rest → Fronts t a → Reads (type_spec room) (record { name = p; params = groups_end; alias = false; of = t }) ts rest
  unfolding type_spec
  at_type p t ts a rest n s f le ends (no_bracket e) =
      ap (type_spec room) n ∙ rw (expect_name_ident p a) (take_other (marked Assign) _ _ a (no_assign t a rest s f) ∙ take_other (marked LBracket) _ _ a e ∙ plain_reads p false t a rest s f le ends)
  at_type p t ts a rest n s f le ends (a_slice x u e) =
      let h : SpellsType (slice x u) a rest = subst (λ (v : TypeTree). SpellsType v a rest) e s in
      let g : FitsType (slice x u) plain_type = subst (λ (v : TypeTree). FitsType v plain_type) e f in
      let some : 1 ≤ room = omega (arith, le, ap type_depth e, type_positive u g.1) in
      let close = h.3 in
      let past : length rest ≤ length (rest_of (generic_group room p h.0)) = omega (arith, ap length close.is, ap (λ (v : List Word). length (rest_of (generic_group room p v))) close.is, ap (λ (o : Outcome _). length (rest_of o)) (no_params p close.spot h.1), shorter (fill_type u h.1 rest h.4)) in
      ap (type_spec room) n ∙ rw (expect_name_ident p a) (take_other (marked Assign) _ _ a (no_assign t a rest s f)
      ∙ rw (h.2, room_is 1 room some) (take_mark LBracket _ _ x h.0
      ∙ first_wins (bracketed_group room p x) (generic_group room p) h.0 rest _ (bracketed_reads p x t h.0 rest some (subst (λ (v : List Word). SpellsType t v rest) h.2 s) f le ends) past))
  at_type p t ts a rest n s f le ends (an_array x k u e) =
      let h : SpellsType (array x k u) a rest = subst (λ (v : TypeTree). SpellsType v a rest) e s in
      let g : FitsType (array x k u) plain_type = subst (λ (v : TypeTree). FitsType v plain_type) e f in
      let some : 1 ≤ room = omega (arith, le, ap type_depth e, type_positive u g.2) in
      let past : length rest ≤ length (rest_of (generic_group room p h.0)) = omega (arith, inside.past_length p k h.0 h.1 h.2 h.4 h.5 g.1 (omega (arith, le, ap type_depth e)), shorter (fill_type u h.2 rest h.6)) in
      ap (type_spec room) n ∙ rw (expect_name_ident p a) (take_other (marked Assign) _ _ a (no_assign t a rest s f)
      ∙ rw (h.3, room_is 1 room some) (take_mark LBracket _ _ x h.0
      ∙ first_wins (bracketed_group room p x) (generic_group room p) h.0 rest _ (bracketed_reads p x t h.0 rest some (subst (λ (v : List Word). SpellsType t v rest) h.3 s) f le ends) past))

  at_params : (p : Placed) (gs : Groups) (t : TypeTree) (ts a b c rest : List Word) → Named p ts a → Mark LBracket a b → SpellsTypeParams (is_length gs) gs b c → FitsTypeParams gs → SpellsType t c rest → FitsType t plain_type → max (groups_depth gs) (type_depth t) ≤ suc room → EndsSpec rest
      → Reads (type_spec room) (record { name = p; params = gs; alias = false; of = t }) ts rest
  unfolding type_spec
  at_params p gs t ts a b c rest n l h g s f le ends =
      ap (type_spec room) n ∙ rw (expect_name_ident p a, l.is) (take_other (marked Assign) _ _ (mark LBracket l.spot ∷ b) refl ∙ take_mark LBracket _ _ l.spot b ∙ by_room (nat_le 1 room))
    where
      by_room : (more : Bool) → cond more (farther (bracketed_group room p l.spot) (generic_group room p)) (generic_group room p) b ≡ Ok (sized (record { name = p; params = gs; alias = false; of = t }) (max (groups_depth gs) (type_depth t)), rest)
      by_room true = second_wins (bracketed_group room p l.spot) (generic_group room p) b rest _ (generic_reads p gs t b c rest h g s f le ends) (omega (arith, inside.past_params p l.spot gs b c h g (omega (arith, le)), shorter (fill_type t c rest s)))
      by_room false = generic_reads p gs t b c rest h g s f le ends

  spec_by : (p : Placed) (gs : Groups) (alias : Bool) (t : TypeTree) (ts a b rest : List Word) → Named p ts a → SpellsTypeHead gs alias a b → SpellsType t b rest → FitsTypeParams gs → FitsType t plain_type → max (groups_depth gs) (type_depth t) ≤ suc room → EndsSpec rest
      → Reads (type_spec room) (record { name = p; params = gs; alias = alias; of = t }) ts rest
  unfolding type_spec
  spec_by p groups_end true t ts a b rest n h s g f le ends =
      ap (type_spec room) n ∙ rw (expect_name_ident p a, h.is) (take_mark Assign _ _ h.spot b ∙ plain_reads p true t b rest s f (omega (arith, le)) ends)
  spec_by p groups_end false t ts a b rest n h s g f le ends =
      let at : SpellsType t a rest = subst (λ (v : List Word). SpellsType t v rest) (sym h) s in at_type p t ts a rest n at f (omega (arith, le)) ends (fronts t a rest at f)
  spec_by p (group_and ns u gs) true t ts a b rest n h s g f le ends = absurd h
  spec_by p (group_and ns u gs) false t ts a b rest n h s g f le ends = at_params p (group_and ns u gs) t ts a h.0 b rest n h.1 h.2 g s f le ends

  pub type_spec_reads : (t : TypeGroup) (ts rest : List Word) → SpellsTypeGroup t ts rest → FitsTypeGroup t → type_group_depth t ≤ suc room → EndsSpec rest → type_spec room ts ≡ Ok (sized t (type_group_depth t), rest)
  type_spec_reads t ts rest (a, b, n, h, s) f le ends = spec_by t.name t.params t.alias t.of ts a b rest n h s f.0 f.1 le ends

pub type_opens : (t : TypeGroup) (ts rest : List Word) → SpellsTypeGroup t ts rest → NoParen ts
type_opens t ts rest (a, b, n, h, s) = (ap (first (marked LParen)) n, ap (first (marked RParen)) n)
