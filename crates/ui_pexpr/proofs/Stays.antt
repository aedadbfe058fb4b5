-- Faults that are none of depth stand where they do at each greater limit.
use Rattle.std.proofs.Common.{◌≡◌, ℕ, zero, suc, ◌+◌, ◌-◌, ◌*◌, ◌≤◌, Bool, true, false, List, length, take, Ok, Err, refl, sym, subst, arith}
use Rattle.std.specs.Prelude.{nat_le}
use Rattle.std.proofs.lemmas.Bool.{leb-true, leb-false}
use Rattle.ui_tree.specs.Tree.{TypeTree, Tree}
use Rattle.ui_grammar.specs.Word.{Word}
use Rattle.ui_grammar.specs.Parse.{HasExpr, HasType, HasSig, IsLive, IsLongest, IsFault, PassesDepth}
use Rattle.ui_parse.specs.Reader.{Outcome, Reader}
use Rattle.ui_parse.proofs.Longest.{Decides, fault}
use Rattle.ui_syntax.specs.Read.{expr, type, sig}
use Rattle.ui_syntax.proofs.Decides.{type_decides, sig_decides}
use Rattle.ui_depth.specs.Laws.{IsFarther, behind}
use Rattle.ui_depth.proofs.Passes.{tells_types, tells_sigs}
use Rattle.ui_pexpr.specs.Faults.{NoDeeper}
use Rattle.ui_pexpr.specs.KindLaws.{ReadsFault, reads_fault}
use Rattle.ui_pexpr.specs.Parsed.{place}
use Rattle.ui_pexpr.specs.Laws.{ExprFaultsStay, TypeFaultsStay, SigFaultsStay}
use Rattle.ui_pexpr.proofs.Answered.{expr_reads, expr_by_depth}

module _ {T X : Type 0} (Has : ℕ → List Word → T → Type 0) (p : ℕ → Reader X) (tree : X → T) (decides : (limit : ℕ) → 1 ≤ limit → Decides (Has limit) (p limit) tree)
    (more : (limit above : ℕ) (ws : List Word) (t : T) → limit ≤ above → Has limit ws t → Has above ws t)
    (passes : (limit : ℕ) (ws rest : List Word) → 1 ≤ limit → p limit ws ≡ Err rest → IsFarther (p (limit + 4) ws) rest → PassesDepth Has ws (behind ws rest)) (ws : List Word) (k : ℕ) (none : NoDeeper Has ws k) where
  live_more : (limit above : ℕ) (front : List Word) → limit ≤ above → IsLive (Has limit) front → IsLive (Has above) front
  live_more limit above front le l = (l.0, l.1, more limit above _ _ le l.2)

  module _ (limit : ℕ) (some : 1 ≤ limit) (h : IsFault (Has limit) ws k) where
    low : ReadsFault (p limit) ws k
    low = reads_fault (Has limit) (p limit) tree (decides limit some) ws k h

    not_farther : (o : Outcome X) → p (limit + 4) ws ≡ o → IsFarther o low.rest → ⊥
    not_farther o e far = none (subst (PassesDepth Has ws) low.place (passes limit ws low.rest some low.read (subst (λ (o : Outcome X). IsFarther o low.rest) (sym e) far)))

    as_far : (u : List Word) → p (limit + 4) ws ≡ Err u → length low.rest ≤ length u
    as_far u e = by_length (nat_le (length low.rest) (length u)) refl
      where
        by_length : (b : Bool) → nat_le (length low.rest) (length u) ≡ b → length low.rest ≤ length u
        by_length true le = leb-true _ _ le
        by_length false lt = absurd (not_farther (Err u) e (leb-false _ _ lt))

    not_before : (n : ℕ) → IsLongest (Has (limit + 4)) ws n → k ≤ n
    not_before n longest = by_order (nat_le k n) refl
      where
        by_order : (b : Bool) → nat_le k n ≡ b → k ≤ n
        by_order true e = leb-true _ _ e
        by_order false e = absurd (longest.no_longer k (leb-false _ _ e) h.longest.inside (live_more limit (limit + 4) (take k ws) (omega arith) h.longest.live))

    by_outcome : (o : Outcome X) → p (limit + 4) ws ≡ o → IsFault (Has (limit + 4)) ws k
    by_outcome (Ok q) e = absurd (not_farther (Ok q) e tt)
    by_outcome (Err u) e =
        let f = fault (Has (limit + 4)) (p (limit + 4)) tree (decides (limit + 4) (omega arith)) ws u e in
        let same : length ws - length u ≡ k = omega (arith, as_far u e, low.place, not_before (length ws - length u) f.longest) in
        subst (IsFault (Has (limit + 4)) ws) same f

    step : IsFault (Has (limit + 4)) ws k
    step = by_outcome (p (limit + 4) ws) refl

  steps : (n limit : ℕ) → 1 ≤ limit → IsFault (Has limit) ws k → IsFault (Has (limit + 4 * n)) ws k
  steps zero limit some h = let e : limit ≡ limit + 4 * zero = omega arith in subst (λ (m : ℕ). IsFault (Has m) ws k) e h
  steps (suc n) limit some h =
      let e : limit + 4 + 4 * n ≡ limit + 4 * suc n = omega arith in
      subst (λ (m : ℕ). IsFault (Has m) ws k) e (steps n (limit + 4) (omega arith) (step limit some h))

  between : (limit above top : ℕ) → limit ≤ above → above ≤ top → IsFault (Has limit) ws k → IsFault (Has top) ws k → IsFault (Has above) ws k
  between limit above top le less h g = record {
    none = λ t has. g.none t (more above top _ _ less has);
    longest = record {
      inside = h.longest.inside;
      live = live_more limit above (take k ws) le h.longest.live;
      no_longer = λ n lt inside live. g.longest.no_longer n lt inside (live_more above top (take n ws) less live);
    };
  }

  stays : (limit above : ℕ) → 1 ≤ limit → limit ≤ above → IsFault (Has limit) ws k → IsFault (Has above) ws k
  stays limit above some le h = between limit above (limit + 4 * above) le (omega arith) h (steps above limit some h)

-- ---- expressions, types, signatures

expr_more : (header : Bool) (limit above : ℕ) (ws : List Word) (t : Tree) → limit ≤ above → HasExpr (place header) limit ws t → HasExpr (place header) above ws t
expr_more header limit above ws t le h = record { spells = h.spells; fits = h.fits; shallow = omega (arith, le, h.shallow) }

type_more : (limit above : ℕ) (ws : List Word) (t : TypeTree) → limit ≤ above → HasType limit ws t → HasType above ws t
type_more limit above ws t le h = record { spells = h.spells; fits = h.fits; shallow = omega (arith, le, h.shallow) }

sig_more : (limit above : ℕ) (ws : List Word) (t : TypeTree) → limit ≤ above → HasSig limit ws t → HasSig above ws t
sig_more limit above ws t le h = record { spells = h.spells; fits = h.fits; shallow = omega (arith, le, h.shallow) }

pub expr_faults_stay : ExprFaultsStay
expr_faults_stay header limit above k ws some le h none =
    stays (HasExpr (place header)) (λ b. expr b header) (λ x. x.tree) (λ limit. expr_reads limit header) (expr_more header) (λ limit ws rest some e. (expr_by_depth limit header some ws rest e).0) ws k none limit above some le h

pub type_faults_stay : TypeFaultsStay
type_faults_stay limit above k ws some le h none =
    stays HasType type (λ x. x.tree) type_decides type_more (λ limit ws rest some e. (tells_types limit ws rest some e).0) ws k none limit above some le h

pub sig_faults_stay : SigFaultsStay
sig_faults_stay limit above k ws some le h none =
    stays HasSig sig (λ x. x.tree) sig_decides sig_more (λ limit ws rest some e. (tells_sigs limit ws rest some e).0) ws k none limit above some le h
