-- Imports and type declarations as they are read.
use Rattle.std.proofs.Common.{◌≡◌, inl, inr, ℕ, suc, pred, max, ◌≤◌, true, false, List, [], ◌∷◌, length, Some, None, refl, sym, ap, subst, ◌∙◌, arith}
use Rattle.std.specs.Prelude.{nat_le}
use Rattle.std.proofs.lemmas.Bool.{leb-true}
use Rattle.ui_base.specs.declared.value.Spot.{Spot}
use Rattle.ui_base.specs.declared.value.Value.{Value}
use Rattle.ui_base.specs.declared.value.Value.TheVariants as value
use Rattle.ui_scan.specs.declared.kind.TokenKind.TheVariants.{LBracket, Assign}
use Rattle.ui_tree.specs.declared.part.Placed.{Placed}
use Rattle.ui_tree.specs.declared.part.LiteralKind.{LiteralKind}
use Rattle.ui_tree.specs.declared.part.LiteralKind.TheVariants.{Whole as AWhole, Rune, Text}
use Rattle.ui_tree.specs.declared.part.Group.{Group}
use Rattle.ui_tree.specs.Tree.{TypeTree, groups_end}
use Rattle.ui_tree.specs.Stmt.{Imported, TypeGroup}
use Rattle.ui_tree.specs.View.{groups, kept}
use Rattle.ui_grammar.specs.Word.{Word, ident, lit, mark, Mark, Named, Quoted}
use Rattle.ui_grammar.specs.Spells.{SpellsType}
use Rattle.ui_grammar.specs.Declaration.{SpellsImported, SpellsTypeHead, SpellsTypeGroup, FitsTypeGroup, type_group_depth}
use Rattle.ui_grammar.proofs.Frames.{Spelling, Then, frame_mark}
use Rattle.ui_parse.specs.Reader.{Reader, and_then, pure, refuse, rest_of}
use Rattle.ui_parse.proofs.Outcomes.{Holds, good, bad, bind, mono, choose, either, taken_holds, name_holds, mark_holds, expect_name_holds}
use Rattle.ui_syntax.specs.declared.site.TypeSite.TheVariants as at
use Rattle.ui_syntax.specs.Read.{readers, type}
use Rattle.ui_syntax.proofs.ByBudget.{Begun, Stops, TypeForm}
use Rattle.ui_syntax.proofs.Begun.{Short, short_as, short_then, short_type, no_spot, AName, short_name, frame_name, begun_as, begun_stops, behind, behind_none, before}
use Rattle.ui_syntax.proofs.SoundTypesOperand.{bracket_holds}
use Rattle.ui_syntax.proofs.Sound.{readers_sound, type_sound, below_next}
use Rattle.ui_stmts.specs.Common.{Sized}
use Rattle.ui_stmts.specs.Decls.{farther, text_if, a_string, expect_string, import_spec, TypeParams, plain_group, bracketed_group, generic_group, type_spec}
use Rattle.ui_stmts.proofs.SoundSpecs.{SpecForm, SpecRead}
use Rattle.ui_stmts.proofs.SoundTypeParams.{GoodParams}
use Rattle.ui_stmts.proofs.SoundTypeLists.{SpellsAs, TypeParamsForm, TypeParamsRead, type_params_apart_hold, frame_type_params_read}

-- ---- imports

text_is : (k : LiteralKind) (s : Spot) (v : Value) (p : Placed) → text_if k s v ≡ Some p → lit k s v ≡ lit Text p.spot (value.Str p.text)
text_is Text s (value.Str bytes) p e = let same : record { spot = s; text = bytes } ≡ p = cc in subst (λ (q : Placed). lit Text s (value.Str bytes) ≡ lit Text q.spot (value.Str q.text)) same refl
text_is Text s (value.Whole n) p e = absurd cc
text_is Text s (value.Truth b) p e = absurd cc
text_is AWhole s v p e = absurd cc
text_is Rune s v p e = absurd cc

string_is : (w : Word) (p : Placed) → a_string w ≡ Some p → w ≡ lit Text p.spot (value.Str p.text)
string_is (ident q) p e = absurd cc
string_is (lit k s v) p e = text_is k s v p e
string_is (mark k s) p e = absurd cc

-- a string, whichever
pub record AString (ts rest : List Word) : Type 0 where
  pub text : Placed
  pub is : Quoted text ts rest

short_string : Short AString
short_string = record { words = lit Text no_spot (value.Str []) ∷ []; spells = λ k. record { text = record { spot = no_spot; text = [] }; is = refl } }

string_holds : {Q : Placed → List Word → Type 0} {F : List Word → Type 0} (ws : List Word) → ((p : Placed) (rest : List Word) → Quoted p ws rest → Q p rest) → F ws → Holds Q F (expect_string ws)
string_holds ws on off = taken_holds a_string pure refuse ws (λ p w rest e h. good (on p rest (e ∙ ap (λ (v : Word). v ∷ rest) (string_is w p h)))) (λ _. bad off)

abbrev pub AnyImport : Imported → Type 0
AnyImport i = Unit {0}

abbrev pub no_depth : Imported → ℕ
no_depth i = 0

import_form : (us ws : List Word) → AString us ws → SpecForm SpellsImported AnyImport no_depth 0 us ws
import_form us ws h = record { all = record { name = None; path = h.text }; spells = (us, refl, h.is); ok = (tt, omega arith) }

named_form : (us ws : List Word) → Then AName AString us ws → SpecForm SpellsImported AnyImport no_depth 0 us ws
named_form us ws (m, n, s) = record { all = record { name = Some n.word; path = s.text }; spells = (m, n.is, s.is); ok = (tt, omega arith) }

pub import_holds : (ts : List Word) → Holds (SpecRead SpellsImported AnyImport no_depth 0 ts) (Stops (SpecForm SpellsImported AnyImport no_depth 0) ts) (import_spec ts)
unfolding import_spec
import_holds ts = name_holds _ _ ts
    (λ n rest e. bind (string_holds {Q = λ p r. Quoted p rest r} {F = Stops (SpecForm SpellsImported AnyImport no_depth 0) ts} rest (λ p r h. h) (inr (begun_as (behind_none (frame_name n ts rest e) short_string) named_form)))
    (λ p r h. good (record { spells = (rest, e, h); fits = tt; sized = refl; shallow = omega arith })) (λ r g. g))
    (λ _. bind (string_holds {Q = λ p r. Quoted p ts r} {F = Stops (SpecForm SpellsImported AnyImport no_depth 0) ts} ts (λ p r h. h) (inl refl))
    (λ p r h. good (record { spells = (ts, refl, h); fits = tt; sized = refl; shallow = omega arith })) (λ r g. g))

-- ---- type declarations

-- what goes farther holds where both do
pub farther_holds : {A : Type 0} {Q : A → List Word → Type 0} {F : List Word → Type 0} (p q : Reader A) (ws : List Word) → Holds Q F (p ws) → Holds Q F (q ws) → Holds Q F (farther p q ws)
unfolding farther
farther_holds p q ws h g = either (nat_le (length (rest_of (p ws))) (length (rest_of (q ws)))) (p ws) (q ws) (λ _. h) (λ _. g)

module _ (room : ℕ) where
  abbrev budget : ℕ
  budget = suc room

  abbrev pub TypeSpecForm : Spelling
  TypeSpecForm = SpecForm SpellsTypeGroup FitsTypeGroup type_group_depth budget

  abbrev pub TypeSpecRead : List Word → Sized TypeGroup → List Word → Type 0
  TypeSpecRead = SpecRead SpellsTypeGroup FitsTypeGroup type_group_depth budget

  -- a name, `=` or nothing, and a type
  alias_form : (us ws : List Word) → Then AName (Then (Mark Assign) (TypeForm at.Plain budget)) us ws → TypeSpecForm us ws
  alias_form us ws (m, n, (k, a, t)) = record {
    all = record { name = n.word; params = groups_end; alias = true; of = t.tree };
    spells = (m, k, n.is, a, t.spells);
    ok = (((refl, tt), t.fits.0), omega (arith, t.fits.1));
  }

  plain_form : (us ws : List Word) → Then AName (TypeForm at.Plain budget) us ws → TypeSpecForm us ws
  plain_form us ws (m, n, t) = record {
    all = record { name = n.word; params = groups_end; alias = false; of = t.tree };
    spells = (m, m, n.is, refl, t.spells);
    ok = (((refl, tt), t.fits.0), omega (arith, t.fits.1));
  }

  generic_form : (us ws : List Word) → Then AName (Then (Mark LBracket) (Then (TypeParamsForm room true) (TypeForm at.Plain budget))) us ws → TypeSpecForm us ws
  generic_form us ws (m, n, (k, a, (o, ps, t))) = by_params ps.all ps.spells ps.good
    where
      by_params : (gs : List (Group TypeTree)) → SpellsAs true gs k o → GoodParams budget gs → TypeSpecForm us ws
      by_params [] h g = absurd h
      by_params (x ∷ gs) h g = record {
        all = record { name = n.word; params = groups kept (x ∷ gs); alias = false; of = t.tree };
        spells = (m, o, n.is, (k, a, h), t.spells);
        ok = (((g.named, g.fits), t.fits.0), omega (arith, g.shallow, t.fits.1));
      }

  short_spec : Short TypeSpecForm
  short_spec = short_as (short_then short_name (short_type budget (omega arith))) plain_form

  module _ (ts : List Word) (p : Placed) (ws : List Word) (name : Named p ts ws) where
    abbrev Fault : List Word → Type 0
    Fault rest = Begun TypeSpecForm ts rest

    alias_holds : (x : Spot) (rest : List Word) → ws ≡ mark Assign x ∷ rest → Holds (TypeSpecRead ts) Fault (plain_group room p true rest)
    alias_holds x rest e = bind (type_sound budget rest)
        (λ t r h. good (record { spells = (ws, rest, name, record { spot = x; is = e }, h.spells); fits = ((refl, tt), h.fits.0); sized = omega (arith, h.sized); shallow = omega (arith, h.sized, h.fits.1) }))
        (λ r st. begun_as (behind (frame_name p ts ws name) (behind (frame_mark Assign ws rest (record { spot = x; is = e })) (begun_stops (short_type budget (omega arith)) st))) alias_form)

    plain_holds : Holds (TypeSpecRead ts) Fault (plain_group room p false ws)
    plain_holds = bind (type_sound budget ws)
        (λ t r h. good (record { spells = (ws, ws, name, refl, h.spells); fits = ((refl, tt), h.fits.0); sized = omega (arith, h.sized); shallow = omega (arith, h.sized, h.fits.1) }))
        (λ r st. begun_as (behind (frame_name p ts ws name) (begun_stops (short_type budget (omega arith)) st)) plain_form)

    bracketed_holds : (s : Spot) (rest : List Word) → 1 ≤ room → ws ≡ mark LBracket s ∷ rest → Holds (TypeSpecRead ts) Fault (bracketed_group room p s rest)
    bracketed_holds s rest le e = bind (bracket_holds room (readers room) (readers_sound room).own (pred room) (below_next room) (readers_sound room).lower at.Plain tt s rest le)
        (λ t r h. good (record { spells = (ws, ws, name, refl, subst (λ (v : List Word). SpellsType t.tree v r) (sym e) h.spells); fits = ((refl, tt), h.fits.0); sized = omega (arith, h.sized); shallow = omega (arith, h.sized, h.fits.1) }))
        (λ r g. begun_as (behind (frame_name p ts ws name) (subst (λ (v : List Word). Begun (TypeForm at.Plain budget) v r) (sym e) g)) plain_form)

    generic_read : (s : Spot) (rest : List Word) → ws ≡ mark LBracket s ∷ rest → (ps : TypeParams) (m : List Word) → TypeParamsRead room true rest ps m → Holds (TypeSpecRead ts) Fault (and_then (type budget m) (λ t. pure (record { of = record { name = p; params = groups kept ps.groups; alias = false; of = t.tree }; depth = max ps.depth t.depth })))
    generic_read s rest e ps m h = bind (type_sound budget m)
        (λ t r q. good (record { spells = (ws, m, name, head (ps.groups) h.spells, q.spells); fits = ((h.good.named, h.good.fits), q.fits.0); sized = omega (arith, h.sized, q.sized); shallow = omega (arith, h.sized, h.good.shallow, q.sized, q.fits.1) }))
        (λ r st. begun_as (behind (frame_name p ts ws name) (behind (frame_mark LBracket ws rest (record { spot = s; is = e })) (behind (frame_type_params_read room true rest ps m h) (begun_stops (short_type budget (omega arith)) st)))) generic_form)
      where
        head : (gs : List (Group TypeTree)) → SpellsAs true gs rest m → SpellsTypeHead (groups kept gs) false ws m
        head [] h = absurd h
        head (g ∷ gs) h = (rest, record { spot = s; is = e }, h)

    generic_holds : (s : Spot) (rest : List Word) → ws ≡ mark LBracket s ∷ rest → Holds (TypeSpecRead ts) Fault (generic_group room p rest)
    generic_holds s rest e = bind (type_params_apart_hold room rest) (λ ps m h. generic_read s rest e ps m h)
        (λ r g. begun_as (behind (frame_name p ts ws name) (behind (frame_mark LBracket ws rest (record { spot = s; is = e })) (before g (short_type budget (omega arith))))) generic_form)

  pub type_spec_holds : (ts : List Word) → Holds (TypeSpecRead ts) (Stops TypeSpecForm ts) (type_spec room ts)
  unfolding type_spec
  type_spec_holds ts = bind (expect_name_holds {Q = λ p ws. ts ≡ ident p ∷ ws} {F = Stops TypeSpecForm ts} ts (λ p ws e. e) (λ _. inl refl))
      (λ p ws name. mono (mark_holds Assign _ _ ws (alias_holds ts p ws name)
      (λ _. mark_holds LBracket _ (plain_group room p false) ws
      (λ s rest e. choose (nat_le 1 room) (farther (bracketed_group room p s) (generic_group room p)) (generic_group room p) rest
      (λ some. farther_holds (bracketed_group room p s) (generic_group room p) rest (bracketed_holds ts p ws name s rest (leb-true _ _ some) e) (generic_holds ts p ws name s rest e))
      (λ _. generic_holds ts p ws name s rest e))
      (λ _. plain_holds ts p ws name)))
      (λ x r h. h) (λ r g. inr g))
      (λ r g. g)
