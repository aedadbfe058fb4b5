-- Names of types, with their arguments.
use Rattle.std.proofs.Common.{◌≡◌, inl, ℕ, suc, max, ◌≤◌, List, [], ◌∷◌, Option, Some, None, refl, sym, ap, subst, arith}
use Rattle.std.specs.Prelude.{nat_le}
use Rattle.std.proofs.lemmas.Bool.{leb-true}
use Rattle.ui_base.specs.declared.value.Spot.{Spot}
use Rattle.ui_scan.specs.declared.kind.TokenKind.TheVariants.{LBracket, RBracket, Comma, Period}
use Rattle.ui_tree.specs.declared.part.Placed.{Placed}
use Rattle.ui_tree.specs.Tree.{TypeTree, named, no_args, args}
use Rattle.ui_tree.specs.View.{types}
use Rattle.ui_grammar.specs.Word.{Word, ident, mark, Named, Mark, Begins}
use Rattle.ui_grammar.specs.Spells.{Member, SpellsType, SpellsSomeTypes}
use Rattle.ui_grammar.specs.Fits.{plain_type, name_depth, type_depth, FitsType}
use Rattle.ui_grammar.proofs.Frames.{Spelling, Framed, Then, framed, fill_word, next, frame_mark, frame_type, frame_member}
use Rattle.ui_parse.specs.Reader.{Reader, and_then, pure, take_by, marked, expect_name}
use Rattle.ui_parse.proofs.Outcomes.{Holds, good, bind, choose, mark_holds, expect_name_holds}
use Rattle.ui_parse.proofs.Steady.{Steady}
use Rattle.ui_syntax.specs.declared.site.TypeSite.TheVariants as at
use Rattle.ui_syntax.specs.Cover.{Read}
use Rattle.ui_syntax.specs.Types.{Listed, only, all_args, named_with, named_without, maybe_args, named_type}
use Rattle.ui_syntax.proofs.ByBudget.{Begun, Stops, TypeForm, IsTypeRead}
use Rattle.ui_syntax.proofs.Begun.{Short, short_as, short_mark, short_name, short_type, begun_as, begun_stops, behind, behind_none, before, frame_word}
use Rattle.ui_syntax.proofs.Places.{name_positive}
use Rattle.ui_syntax.proofs.Runs.{run_first}
use Rattle.ui_syntax.proofs.SoundTypesLists.{TypeFits, TypeOk, good_one, ok_only, TypesAt, TypesRead, TypesFault, TypesTail, more_types_holds}

pub begins_named : (p : Placed) (ts a : List Word) → Named p ts a → Begins p.spot ts
begins_named p ts a e = subst (Begins p.spot) (sym e) refl

-- name [ "." name ]
abbrev pub Start : Placed → Option Placed → Spelling
Start p m = Then (Named p) (Member m)

pub frame_start : (p : Placed) (m : Option Placed) (ts ws : List Word) → Start p m ts ws → Framed (Start p m) ts ws
frame_start p m ts ws h = next (framed (fill_word (ident p) ts h.0 h.1)) (frame_member m h.0 ws h.2)

abbrev pub SomeTypes : List TypeTree → Spelling
SomeTypes us = SpellsSomeTypes (types us)

-- a name with arguments, behind the bracket
pub named_read : (b budget : ℕ) (p : Placed) (m : Option Placed) (ts ws rest last : List Word) (us : Listed TypeTree) → Start p m ts ws → Mark LBracket ws rest → TypesRead Comma RBracket plain_type b SomeTypes rest us last
    → suc (name_depth m) ≤ budget → suc b ≤ budget → IsTypeRead at.Plain budget ts (named_with p m us) last
named_read b budget p m ts ws rest last us h k r le le2 = record {
  begins = begins_named p ts h.0 h.1;
  spells = (h.0, ws, h.1, h.2, (rest, k, r.spells));
  fits = ((refl, r.ok.fits), omega (arith, r.ok.sized, r.ok.shallow));
  sized = ap (λ (k : ℕ). suc (max (name_depth m) k)) r.ok.sized;
  no_results = λ e. absurd cc;
}

pub named_begun : (b budget : ℕ) (p : Placed) (m : Option Placed) (ts ws rest last : List Word) → Start p m ts ws → Mark LBracket ws rest → TypesFault Comma RBracket plain_type b SomeTypes rest last
    → suc (name_depth m) ≤ budget → suc b ≤ budget → Begun (TypeForm at.Plain budget) ts last
named_begun b budget p m ts ws rest last h k g le le2 = begun_as (behind (frame_start p m ts ws h) (behind (frame_mark LBracket ws rest k) g))
    (λ us rs h. let f = h.2.2 in record { tree = named p m (args (types f.all)); spells = (h.1.0, h.0, h.1.1, h.1.2, (h.2.0, h.2.1, f.spells)); fits = ((refl, f.ok.0), omega (arith, f.ok.1)); closed = refl })

pub bare_read : (budget : ℕ) (p : Placed) (m : Option Placed) (ts ws : List Word) → Start p m ts ws → name_depth m ≤ budget → IsTypeRead at.Plain budget ts (named_without p m) ws
bare_read budget p m ts ws h le = record { begins = begins_named p ts h.0 h.1; spells = (h.0, ws, h.1, h.2, refl); fits = ((refl, tt), le); sized = refl; no_results = λ e. absurd cc }

pub member_missing : (budget : ℕ) (p : Placed) (ws rest : List Word) (s : Spot) → 2 ≤ budget → ws ≡ mark Period s ∷ rest → Begun (TypeForm at.Plain budget) (ident p ∷ ws) rest
member_missing budget p ws rest s le e = begun_as (behind (frame_word (ident p) ws) (behind_none (frame_mark Period ws rest (record { spot = s; is = e })) short_name))
    (λ us rs h. record { tree = named p (Some h.2.2.word) no_args; spells = (h.0, rs, h.1, (h.2.0, h.2.1, h.2.2.is), refl); fits = ((refl, tt), le); closed = refl })

module _ (b : ℕ) where
  pub first_arg : (ts : List Word) (t : TypeTree) (k : ℕ) (ws : List Word) → SpellsType t ts ws → FitsType t plain_type → type_depth t ≡ k → k ≤ b → TypesAt Comma RBracket plain_type b SomeTypes ts (only t k) ws
  first_arg ts t k ws spells fits sized shallow = record {
    run = run_first (TypesTail Comma RBracket) SomeTypes t ts ws (frame_type t ts ws spells) (λ us a k rest h g. (k, h, g));
    ok = ok_only plain_type b t k fits sized shallow;
  }

  pub short_fits : 1 ≤ b → Short (TypeFits plain_type b)
  short_fits le = short_as (short_type b le) (λ us ws h. record { tree = h.tree; spells = h.spells; fits = h.fits.0; shallow = h.fits.1 })

  pub args_stop : (ts rest : List Word) → 1 ≤ b → Stops (TypeFits plain_type b) ts rest → TypesFault Comma RBracket plain_type b SomeTypes ts rest
  args_stop ts rest le s = begun_as (before (begun_stops (short_fits le) s) (short_mark RBracket)) (λ us rs h. let t = h.1 in record { all = t.tree ∷ []; spells = (h.0, t.spells, inl h.2); ok = good_one t.tree plain_type b t.fits t.shallow })

  module _ (type : Reader (Read TypeTree)) (type_is : Steady type) (type_sound : (ws : List Word) → Holds (TypeOk plain_type b ws) (Stops (TypeFits plain_type b) ws) (type ws)) where
    pub all_args_holds : (ts : List Word) → 1 ≤ b → Holds (TypesRead Comma RBracket plain_type b SomeTypes ts) (TypesFault Comma RBracket plain_type b SomeTypes ts) (all_args type ts)
    all_args_holds ts le = bind (type_sound ts)
        (λ t m r. more_types_holds Comma RBracket plain_type b SomeTypes ts type type_is type_sound (only t.tree t.depth) m
        (first_arg ts t.tree t.depth m r.spells r.fits r.sized r.shallow))
        (λ rest s. args_stop ts rest le s)

    module _ (budget : ℕ) (room_for : 2 ≤ budget → (suc b ≤ budget) × (1 ≤ b)) where
      with_args : (p : Placed) (m : Option Placed) (ts ws rest : List Word) (s : Spot) → Start p m ts ws → suc (name_depth m) ≤ budget → ws ≡ mark LBracket s ∷ rest
          → Holds (IsTypeRead at.Plain budget ts) (Begun (TypeForm at.Plain budget) ts) (and_then (all_args type rest) (λ us. pure (named_with p m us)))
      with_args p m ts ws rest s h le e =
          let r = room_for (omega (arith, name_positive m)) in
          bind (all_args_holds rest r.1)
          (λ us last g. good (named_read b budget p m ts ws rest last us h (record { spot = s; is = e }) g le r.0))
          (λ last g. named_begun b budget p m ts ws rest last h (record { spot = s; is = e }) g le r.0)

      pub maybe_args_holds : (p : Placed) (m : Option Placed) (ts ws : List Word) → Start p m ts ws → name_depth m ≤ budget → Holds (IsTypeRead at.Plain budget ts) (Begun (TypeForm at.Plain budget) ts) (maybe_args budget type p m ws)
      maybe_args_holds p m ts ws h le =
          let bare : Holds (IsTypeRead at.Plain budget ts) (Begun (TypeForm at.Plain budget) ts) (pure (named_without p m) ws) = good (bare_read budget p m ts ws h le) in
          choose (nat_le (suc (name_depth m)) budget) (take_by (marked LBracket) (λ _. λ v. and_then (all_args type v) (λ us. pure (named_with p m us))) (pure (named_without p m))) (pure (named_without p m)) ws
          (λ e. mark_holds LBracket (λ _. λ v. and_then (all_args type v) (λ us. pure (named_with p m us))) (pure (named_without p m)) ws (λ s rest e2. with_args p m ts ws rest s h (leb-true _ _ e) e2) (λ _. bare))
          (λ e. bare)

      pub named_type_holds : (p : Placed) (ws : List Word) → 1 ≤ budget → Holds (IsTypeRead at.Plain budget (ident p ∷ ws)) (Begun (TypeForm at.Plain budget) (ident p ∷ ws)) (named_type budget type p ws)
      unfolding named_type
      named_type_holds p ws le =
          let bare = maybe_args_holds p None (ident p ∷ ws) ws (ws, refl, refl) le in
          choose (nat_le 2 budget) (take_by (marked Period) (λ _. λ v. and_then (expect_name v) (λ m. maybe_args budget type p (Some m))) (maybe_args budget type p None)) (maybe_args budget type p None) ws
          (λ e. mark_holds Period (λ _. λ v. and_then (expect_name v) (λ m. maybe_args budget type p (Some m))) (maybe_args budget type p None) ws
          (λ s rest e2. bind (expect_name_holds {Q = λ m r. rest ≡ ident m ∷ r} {F = λ r. Begun (TypeForm at.Plain budget) (ident p ∷ ws) r} rest (λ m r h. h) (λ _. member_missing budget p ws rest s (leb-true _ _ e) e2))
          (λ m r h. maybe_args_holds p (Some m) (ident p ∷ ws) r (ws, refl, (rest, record { spot = s; is = e2 }, h)) (leb-true _ _ e))
          (λ r g. g))
          (λ _. bare))
          (λ e. bare)
