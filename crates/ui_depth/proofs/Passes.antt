-- Which faults are faults of depth: where a reader that has four levels more reads farther, some form without a limit begins with
-- the fault's own word too, and nowhere else.
use Rattle.std.proofs.Common.{◌≡◌, ℕ, zero, suc, ◌+◌, ◌-◌, ◌<◌, ◌≤◌, Bool, true, false, List, [], ◌∷◌, ◌++◌, length, take, drop, Ok, Err, refl, sym, ap, subst, ◌∙◌, append_assoc, arith}
use Rattle.std.specs.Prelude.{nat_le}
use Rattle.std.proofs.lemmas.Bool.{leb-true, leb-false}
use Rattle.std.proofs.lemmas.List.{length-append, append-nil}
use Rattle.ui_scan.specs.declared.kind.TokenKind.TheVariants.{LParen}
use Rattle.ui_tree.specs.Tree.{TypeTree, Tree}
use Rattle.ui_grammar.specs.Word.{Word}
use Rattle.ui_grammar.specs.Parse.{HasExpr, HasType, HasSig, IsLive, IsLongest, PassesDepth}
use Rattle.ui_parse.specs.Reader.{Outcome, Reader, rest_of as left}
use Rattle.ui_parse.proofs.Steady.{steady_expect}
use Rattle.ui_parse.proofs.Longest.{Decides, found, fault}
use Rattle.ui_syntax.specs.declared.site.TypeSite.TheVariants as at
use Rattle.ui_syntax.specs.Types.{func_of}
use Rattle.ui_syntax.specs.Read.{readers, place_of, expr, type, sig, place_at}
use Rattle.ui_syntax.proofs.Decides.{expr_decides, type_decides, sig_decides}
use Rattle.ui_depth.proofs.Deeper.{StopsAt, reads, faults, Deeper, alike, beyond, Deepens, Never, not_longer, deep_bind, deep_same}
use Rattle.ui_depth.proofs.Budgets.{above, above_is, TypeStop, ExprStop, deep_there}
use Rattle.ui_depth.proofs.DeepParams.{deep_signature}
use Rattle.ui_depth.proofs.Readers.{are_deeper}
use Rattle.ui_depth.specs.Laws.{IsFarther, behind, TellsExprs, TellsTypes, TellsSigs}

-- ---- fronts

front_parts : (front r : List Word) (n : ℕ) → n ≤ length front → take n (front ++ r) ++ drop n front ≡ front
front_parts front r zero le = refl
front_parts [] r (suc n) le = absurd (omega (arith, le))
front_parts (w ∷ front) r (suc n) le = ap (λ (v : List Word). w ∷ v) (front_parts front r n (omega (arith, le)))

-- what a longer list begins begins with its fronts
pub live_front : {T : Type 0} (Has : List Word → T → Type 0) (ws front r : List Word) (n : ℕ) → ws ≡ front ++ r → n ≤ length front → IsLive Has front → IsLive Has (take n ws)
live_front Has ws front r n e le l =
    (drop n front ++ l.0, l.1, subst (λ (v : List Word). Has v l.1) (sym (ap (λ (v : List Word). take n v ++ (drop n front ++ l.0)) e ∙ sym (append_assoc (take n (front ++ r)) (drop n front) l.0) ∙ ap (λ (v : List Word). v ++ l.0) (front_parts front r n le))) l.2)

-- ---- readers of each limit

module _ {T X : Type 0} (Has : ℕ → List Word → T → Type 0) (p : ℕ → Reader X) (tree : X → T) (decides : (limit : ℕ) → 1 ≤ limit → Decides (Has limit) (p limit) tree) where
  -- what is read, or is before a fault, is live
  pub live_left : (limit : ℕ) (ws : List Word) (n : ℕ) (o : Outcome X) → 1 ≤ limit → p limit ws ≡ o → n + length (left o) ≤ length ws → IsLive (Has limit) (take n ws)
  live_left limit ws n (Ok x) le e short =
      let f = (decides limit le).found_has ws x.0 x.1 e in
      live_front (Has limit) ws f.front x.1 n f.parts (omega (arith, short, ap length f.parts, length-append f.front x.1)) ([], tree x.0, subst (λ (v : List Word). Has limit v (tree x.0)) (sym (append-nil f.front)) f.has)
  live_left limit ws n (Err rest) le e short =
      let f = (decides limit le).fault_live ws rest e in
      live_front (Has limit) ws f.front rest n f.parts (omega (arith, short, ap length f.parts, length-append f.front rest)) f.live

  no_more : (limit : ℕ) (ws : List Word) (n k : ℕ) (b : Bool) → nat_le n k ≡ b → IsLongest (Has limit) ws k → n ≤ length ws → IsLive (Has limit) (take n ws) → n ≤ k
  no_more limit ws n k true e longest le live = leb-true _ _ e
  no_more limit ws n k false e longest le live = absurd (longest.no_longer n (leb-false _ _ e) le live)

  pub shorter : (limit : ℕ) (ws : List Word) (o : Outcome X) → 1 ≤ limit → p limit ws ≡ o → length (left o) ≤ length ws
  shorter limit ws o le e = subst (λ (x : Outcome X). length (left x) ≤ length ws) e (not_longer ws (p limit ws) ((decides limit le).steady.ends ws))

  -- what is live is read, or is before the fault
  pub live_read : (limit : ℕ) (ws : List Word) (n : ℕ) (o : Outcome X) → 1 ≤ limit → p limit ws ≡ o → n ≤ length ws → IsLive (Has limit) (take n ws) → n + length (left o) ≤ length ws
  live_read limit ws n (Ok x) le e short live =
      let longest = (found (Has limit) (p limit) tree (decides limit le) ws x.0 x.1 e).longest in
      omega (arith, no_more limit ws n (length ws - length x.1) (nat_le n (length ws - length x.1)) refl longest short live, shorter limit ws (Ok x) le e)
  live_read limit ws n (Err rest) le e short live =
      let longest = (fault (Has limit) (p limit) tree (decides limit le) ws rest e).longest in
      omega (arith, no_more limit ws n (length ws - length rest) (nat_le n (length ws - length rest)) refl longest short live, shorter limit ws (Err rest) le e)

  -- ---- by four levels more

  module _ (more : (limit above : ℕ) (ws : List Word) (t : T) → limit ≤ above → Has limit ws t → Has above ws t) {D : ℕ → X → Word → Type 0} (deeper : (b : ℕ) → 1 ≤ b → Deepens (D b) (p b) (λ e. p (above b e))) where
    farther_by : (o : Outcome X) (rest : List Word) → length (left o) < length rest → IsFarther o rest
    farther_by (Ok x) rest lt = tt
    farther_by (Err u) rest lt = lt

    not_same : (o : Outcome X) (rest : List Word) → o ≡ Err rest → IsFarther o rest → ⊥
    not_same (Ok x) rest e f = absurd cc
    not_same (Err u) rest e f = let same : u ≡ rest = cc in omega (arith, f, ap length same)

    -- a fault stands where the greater budgets go on
    stop_at : {b : ℕ} {o : Outcome X} {w : Word} {r : List Word} (rest : List Word) → StopsAt (D b) o w r → o ≡ Err rest → rest ≡ w ∷ r
    stop_at rest (reads x e d) at = absurd cc
    stop_at rest (faults e) at = let same : rest ≡ _ = cc in same

    data FartherCase (b : ℕ) (ws rest : List Word) : Type 0 where
      nowhere : ((e : ℕ) → p (above b e) ws ≡ Err rest) → FartherCase b ws rest
      everywhere : ((e : ℕ) → length (left (p (above b e) ws)) < length rest) → FartherCase b ws rest

    farther_case : (b : ℕ) (ws rest : List Word) → 1 ≤ b → p b ws ≡ Err rest → FartherCase b ws rest
    farther_case b ws rest le at = go ((deeper b le).at ws)
      where
        go : Deeper (D b) (p b ws) (λ e. p (above b e) ws) → FartherCase b ws rest
        go (alike same) = nowhere (λ e. same e ∙ at)
        go (beyond w r stops far) = everywhere (λ e. omega (arith, far e, ap length (stop_at rest stops at)))

    four : (b : ℕ) → above b 0 ≡ b + 4
    four b = omega (arith, above_is b 0)

    pub passes : (b : ℕ) (ws rest : List Word) → 1 ≤ b → p b ws ≡ Err rest → IsFarther (p (b + 4) ws) rest → PassesDepth Has ws (behind ws rest)
    passes b ws rest le at far = go (farther_case b ws rest le at)
      where
        fewer : length rest ≤ length ws
        fewer = shorter b ws (Err rest) le at

        go : FartherCase b ws rest → PassesDepth Has ws (behind ws rest)
        go (nowhere same) = absurd (not_same (p (b + 4) ws) rest (ap (λ (k : ℕ). p k ws) (sym (four b)) ∙ same 0) far)
        go (everywhere longer) = (
          omega (arith, longer 0, fewer),
          (above b 0, live_left (above b 0) ws (behind ws rest + 1) (p (above b 0) ws) (omega (arith, above_is b 0)) refl (omega (arith, longer 0, fewer))),
        )

    pub beyond_four : (b : ℕ) (ws rest : List Word) → 1 ≤ b → p b ws ≡ Err rest → PassesDepth Has ws (behind ws rest) → IsFarther (p (b + 4) ws) rest
    beyond_four b ws rest le at deep = go (farther_case b ws rest le at)
      where
        limit : ℕ
        limit = deep.1.0

        live : IsLive (Has (above b limit)) (take (behind ws rest + 1) ws)
        live = (deep.1.1.0, deep.1.1.1, more limit (above b limit) _ _ (omega (arith, above_is b limit)) deep.1.1.2)

        go : FartherCase b ws rest → IsFarther (p (b + 4) ws) rest
        go (nowhere same) = absurd (omega (arith, deep.0, shorter b ws (Err rest) le at, live_read (above b limit) ws (behind ws rest + 1) (Err rest) (omega (arith, above_is b limit)) (same limit) (omega (arith, deep.0)) live))
        go (everywhere longer) = farther_by (p (b + 4) ws) rest (subst (λ (k : ℕ). length (left (p k ws)) < length rest) (four b) (longer 0))

-- ---- expressions, types, signatures

expr_more : (header : Bool) (limit above : ℕ) (ws : List Word) (t : Tree) → limit ≤ above → HasExpr (place_at (place_of header)) limit ws t → HasExpr (place_at (place_of header)) above ws t
expr_more header limit above ws t le h = record { spells = h.spells; fits = h.fits; shallow = omega (arith, le, h.shallow) }

pub type_more : (limit above : ℕ) (ws : List Word) (t : TypeTree) → limit ≤ above → HasType limit ws t → HasType above ws t
type_more limit above ws t le h = record { spells = h.spells; fits = h.fits; shallow = omega (arith, le, h.shallow) }

pub sig_more : (limit above : ℕ) (ws : List Word) (t : TypeTree) → limit ≤ above → HasSig limit ws t → HasSig above ws t
sig_more limit above ws t le h = record { spells = h.spells; fits = h.fits; shallow = omega (arith, le, h.shallow) }

pub expr_deeper : (header : Bool) (b : ℕ) → Deepens (ExprStop b) (expr b header) (λ e. expr (above b e) header)
expr_deeper header b = (are_deeper b).level (place_of header) 1

pub type_deeper : (b : ℕ) → Deepens TypeStop (type b) (λ e. type (above b e))
type_deeper b = deep_there at.Plain ((are_deeper b).maybe_type at.Plain)

sig_deeper : (b : ℕ) → 1 ≤ b → Deepens TypeStop (sig b) (λ e. sig (above b e))
sig_deeper zero le = absurd (omega (arith, le))
sig_deeper (suc d) le = deep_bind {D = Never} (deep_same (steady_expect LParen)) (λ s. deep_signature d (are_deeper d) (func_of d (readers d) s)) (λ s w r h. absurd h)

-- Where the reader of a budget faults, the fault is one of depth where the reader that has four levels more reads farther.
pub expr_passes : (budget : ℕ) (header : Bool) (ws rest : List Word) → 1 ≤ budget → expr budget header ws ≡ Err rest → IsFarther (expr (budget + 4) header ws) rest
    → PassesDepth (HasExpr (place_at (place_of header))) ws (behind ws rest)
expr_passes budget header = passes (HasExpr (place_at (place_of header))) (λ b. expr b header) (λ x. x.tree) (λ limit. expr_decides limit header) (expr_more header) (λ b _. expr_deeper header b) budget

-- and nowhere else
pub expr_beyond : (budget : ℕ) (header : Bool) (ws rest : List Word) → 1 ≤ budget → expr budget header ws ≡ Err rest → PassesDepth (HasExpr (place_at (place_of header))) ws (behind ws rest)
    → IsFarther (expr (budget + 4) header ws) rest
expr_beyond budget header = beyond_four (HasExpr (place_at (place_of header))) (λ b. expr b header) (λ x. x.tree) (λ limit. expr_decides limit header) (expr_more header) (λ b _. expr_deeper header b) budget

pub type_passes : (budget : ℕ) (ws rest : List Word) → 1 ≤ budget → type budget ws ≡ Err rest → IsFarther (type (budget + 4) ws) rest → PassesDepth HasType ws (behind ws rest)
type_passes budget = passes HasType type (λ x. x.tree) type_decides type_more (λ b _. type_deeper b) budget

pub type_beyond : (budget : ℕ) (ws rest : List Word) → 1 ≤ budget → type budget ws ≡ Err rest → PassesDepth HasType ws (behind ws rest) → IsFarther (type (budget + 4) ws) rest
type_beyond budget = beyond_four HasType type (λ x. x.tree) type_decides type_more (λ b _. type_deeper b) budget

pub sig_passes : (budget : ℕ) (ws rest : List Word) → 1 ≤ budget → sig budget ws ≡ Err rest → IsFarther (sig (budget + 4) ws) rest → PassesDepth HasSig ws (behind ws rest)
sig_passes budget = passes HasSig sig (λ x. x.tree) sig_decides sig_more sig_deeper budget

pub sig_beyond : (budget : ℕ) (ws rest : List Word) → 1 ≤ budget → sig budget ws ≡ Err rest → PassesDepth HasSig ws (behind ws rest) → IsFarther (sig (budget + 4) ws) rest
sig_beyond budget = beyond_four HasSig sig (λ x. x.tree) sig_decides sig_more sig_deeper budget

-- ---- both ways

pub tells_exprs : TellsExprs
tells_exprs header budget ws rest le e = (expr_passes budget header ws rest le e, expr_beyond budget header ws rest le e)

pub tells_types : TellsTypes
tells_types budget ws rest le e = (type_passes budget ws rest le e, type_beyond budget ws rest le e)

pub tells_sigs : TellsSigs
tells_sigs budget ws rest le e = (sig_passes budget ws rest le e, sig_beyond budget ws rest le e)
