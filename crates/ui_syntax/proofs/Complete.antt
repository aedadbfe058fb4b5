-- The readers of each budget read what is there.
use Rattle.std.proofs.Common.{◌≡◌, ℕ, zero, suc, pred, ◌≤◌, Bool, List, [], Ok, refl, sym, ap, subst, ◌∙◌, inl, inr, arith}
use Rattle.ui_base.specs.declared.value.Spot.{Spot}
use Rattle.ui_tree.specs.Tree.{TypeTree, func, Tree}
use Rattle.ui_grammar.specs.Word.{Word, Begins}
use Rattle.ui_grammar.specs.Spells.{Spells, SpellsType}
use Rattle.ui_grammar.specs.Fits.{plain_type, depth, type_depth, Fits, FitsType}
use Rattle.ui_grammar.specs.Parse.{HasExpr, HasType, HasSig, SpellsSignature}
use Rattle.ui_parse.specs.Reader.{Reader}
use Rattle.ui_parse.proofs.Outcomes.{expect_mark}
use Rattle.ui_parse.proofs.Longest.{Whole}
use Rattle.ui_syntax.specs.declared.site.Site.{Site}
use Rattle.ui_syntax.specs.declared.site.Site.TheVariants.{Header, Plain, Wrapped, Argument}
use Rattle.ui_syntax.specs.declared.site.TypeSite.{TypeSite}
use Rattle.ui_syntax.specs.declared.site.TypeSite.TheVariants as at
use Rattle.ui_syntax.specs.Cover.{Read}
use Rattle.ui_syntax.specs.Types.{Nested, of_type}
use Rattle.ui_syntax.specs.Read.{nothing, next, readers, place_of, expr, type, sig, place_at}
use Rattle.ui_syntax.proofs.ByBudget.{FitsAt, FitsAlone, QuietType, Quiet, ReadsTo, IsOperandType, IsCompleteAt, IsComplete}
use Rattle.ui_syntax.proofs.Quiet.{stop_end, quiet_stop, quiet_type_stop}
use Rattle.ui_syntax.proofs.Places.{type_positive, literal_positive, element_positive, depth_positive}
use Rattle.ui_syntax.proofs.SteadyTypes.{AreSteady}
use Rattle.ui_syntax.proofs.Steady.{readers_steady}
use Rattle.ui_syntax.proofs.Levels.{level_positive}
use Rattle.ui_syntax.proofs.CompleteTypes.{type_complete as types_complete, no_type_complete, sig_complete as signature_complete}
use Rattle.ui_syntax.proofs.CompleteExprsTrees.{type_read_as}
use Rattle.ui_syntax.proofs.CompleteExprsElems.{braces_complete}
use Rattle.ui_syntax.proofs.CompleteExprs.{level_complete, alone_complete}

-- ---- nothing has the depth 0

operand_positive : (t : TypeTree) → IsOperandType t → 1 ≤ type_depth t
operand_positive t i = elim i.fits [ inl f ↦ type_positive t f | inr f ↦ literal_positive t f.1 ]

no_depth : (p : TypeSite) (ts rest : List Word) (t : TypeTree) → SpellsType t ts rest → FitsAt p 0 t → ⊥
no_depth at.Plain ts rest t s f = omega (arith, type_positive t f.0, f.1)
no_depth at.Element ts rest t s f = omega (arith, element_positive t ts rest s f.0, f.1)
no_depth at.Operand ts rest t s f = omega (arith, operand_positive t f.0, f.1)
no_depth at.Argument ts rest t s f = omega (arith, operand_positive t f.0, f.1)

no_alone : (s : Site) (t : TypeTree) → FitsAlone s 0 t → ⊥
no_alone Header t f = f.room
no_alone Plain t f = f.room
no_alone Wrapped t f = omega (arith, f.room)
no_alone Argument t f = omega (arith, f.room, type_positive t f.fits)

nothing_at : IsCompleteAt 0 nothing.level nothing.maybe_type
nothing_at = record {
  expr = λ s least ts rest e sp f q. absurd (omega (arith, depth_positive e (place_at s) f.fits, f.shallow));
  alone = λ s least ts rest t sp f q. absurd (no_alone s t f);
  type = λ p ts rest t sp f q. absurd (no_depth p ts rest t sp f);
  no_type = λ ts e. refl;
}

nothing_complete : IsComplete 0 0 nothing
nothing_complete = record { own = nothing_at; braces = λ ts rest es sp f le. absurd (omega (arith, le)); lower = nothing_at }

-- ---- from one budget to the next

below : (d : ℕ) → 1 ≤ d → d ≡ suc (pred d)
below zero le = absurd (omega (arith, le))
below (suc d) le = refl

next_complete : (room low : ℕ) (inner : Nested) → (1 ≤ room → room ≡ suc low) → IsComplete room low inner → AreSteady inner → IsComplete (suc room) room (next room inner)
next_complete room low inner is_below c steady =
    let types = types_complete room low inner is_below c.own c.lower steady in
    record {
      own = record {
        expr = level_complete room low inner c steady types;
        alone = alone_complete room low inner c steady types;
        type = types;
        no_type = no_type_complete room inner;
      };
      braces = braces_complete room low inner c steady;
      lower = c.own;
    }

pub readers_complete : (d : ℕ) → IsComplete d (pred d) (readers d)
unfolding readers
readers_complete zero = nothing_complete
readers_complete (suc d) = next_complete d (pred d) (readers d) (below d) (readers_complete d) (readers_steady d)

-- ---- the readers of a budget, before words that do not go on

pub expr_complete : (budget : ℕ) (header : Bool) (ts rest : List Word) (e : Tree) → Spells e ts rest → Fits e (place_at (place_of header)) → depth e ≤ budget → Quiet (place_of header) 1 rest → ReadsTo (expr budget header ts) e (depth e) ts rest
expr_complete budget header ts rest e sp f le q = (readers_complete budget).own.expr (place_of header) 1 ts rest e sp (record { fits = f; shallow = le; binds = level_positive e }) q

-- what is read, with its tree and spot
pub record ReadsType (read_by : Reader (Read TypeTree)) (t : TypeTree) (ts rest : List Word) : Type 0 where
  pub spot : Spot
  pub begins : Begins spot ts
  pub is : read_by ts ≡ Ok (of_type t spot (type_depth t), rest)

pub type_complete : (budget : ℕ) (ts rest : List Word) (t : TypeTree) → SpellsType t ts rest → FitsType t plain_type → type_depth t ≤ budget → QuietType t rest → ReadsType (type budget) t ts rest
type_complete budget ts rest t sp f le q =
    let r = (readers_complete budget).own.type at.Plain ts rest t sp (f, le) q in
    record { spot = r.read.spot; begins = r.begins; is = rw (type_read_as r) refl }

pub sig_complete : (budget : ℕ) (ts rest : List Word) (t : TypeTree) → SpellsSignature t ts rest → FitsType t plain_type → type_depth t ≤ budget → QuietType t rest → ReadsType (sig budget) t ts rest
sig_complete zero ts rest (func x gs r) sp f le q = absurd (omega (arith, le))
sig_complete (suc d) ts rest (func x gs r) sp f le q =
    let c = readers_complete d in
    let h = signature_complete d (pred d) (readers d) (below d) c.own c.lower (readers_steady d) x gs r sp.0 sp.1 rest sp.3 sp.4 f le q in
    record { spot = x; begins = subst (Begins x) (sym sp.2) refl; is = ap (sig (suc d)) sp.2 ∙ rw (expect_mark, h) refl }
sig_complete budget ts rest t sp f le q = absurd sp

-- ---- the forms whose words are all that there is

pub expr_whole : (budget : ℕ) (header : Bool) (ts : List Word) (e : Tree) → HasExpr (place_at (place_of header)) budget ts e → Whole (expr budget header) (λ x. x.tree) ts e
expr_whole budget header ts e h =
    let r = expr_complete budget header ts [] e h.spells h.fits h.shallow (quiet_stop (place_of header) 1 [] stop_end) in
    record { x = r.read; read = r.is; is = r.tree }

pub type_whole : (budget : ℕ) (ts : List Word) (t : TypeTree) → HasType budget ts t → Whole (type budget) (λ x. x.tree) ts t
type_whole budget ts t h =
    let r = type_complete budget ts [] t h.spells h.fits h.shallow (quiet_type_stop t [] stop_end) in
    record { x = of_type t r.spot (type_depth t); read = r.is; is = refl }

pub sig_whole : (budget : ℕ) (ts : List Word) (t : TypeTree) → HasSig budget ts t → Whole (sig budget) (λ x. x.tree) ts t
sig_whole budget ts t h =
    let r = sig_complete budget ts [] t h.spells h.fits h.shallow (quiet_type_stop t [] stop_end) in
    record { x = of_type t r.spot (type_depth t); read = r.is; is = refl }
