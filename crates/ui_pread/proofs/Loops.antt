-- Loops that go on as long as a test holds, turn by turn.
use Rattle.std.proofs.Common.{◌≡◌, ℕ, zero, suc, ◌-◌, Bool, true, false, cond, List, Result, Ok, Err, refl, sym, ap, subst, ◌∙◌, arith}
use Rattle.ui_grammar.specs.Word.{Word}
use Rattle.ui_parse.specs.declared.fault.ParseError.{ParseError}
use Rattle.ui_parse.specs.declared.turn.Turn.{Turn}
use Rattle.ui_parse.specs.declared.turn.Turn.TheVariants.{Done, More}
use Rattle.ui_parse.specs.Reader.{Outcome, Reader, and_then, pure}
use Rattle.ui_parse.specs.View.{Reads}
use Rattle.ui_parse.proofs.ListLaws.{reads_fault}
use Rattle.ui_pread.specs.Turns.{see_turn}

abbrev pub after_turn : {V : Type 0} → (V → Reader V) → Turn V → Reader V
after_turn again (Done v) = pure v
after_turn again (More v) = again v

pub read_is : {A X : Type 0} (see : X → A) (o : Outcome A) (x : X) (m : List Word) → Reads see o (Ok x) m → o ≡ Ok (see x, m)
read_is see (Ok p) x m h = rw (h.0, h.1) refl
read_is see (Err ws) x m h = absurd h

-- ---- an answer, where the reader's outcome is another's

pub reads_as : {A X : Type 0} (see : X → A) (o o' : Outcome A) (r : Result X ParseError) (left : List Word) → o ≡ o' → Reads see o r left → Reads see o' r left
reads_as {A = A} see o o' r left e h = subst (λ (o : Outcome A). Reads see o r left) e h

pub reads_ok : {A X : Type 0} (see : X → A) (o : Outcome A) (x : X) (left : List Word) → o ≡ Ok (see x, left) → Reads see o (Ok x) left
reads_ok {A = A} see o x left e = subst (λ (o : Outcome A). Reads see o (Ok x) left) (sym e) (refl, refl)

module _ {S V : Type 0} (see : S → V) (test : V → Bool) (turn : V → Reader (Turn V)) (go : ℕ → V → Reader V)
    (ends : (v : V) (ws : List Word) → go zero v ws ≡ Ok (v, ws))
    (turns : (n : ℕ) (v : V) (ws : List Word) → go (suc n) v ws ≡ cond (test v) (λ u. and_then (turn v u) (after_turn (go n))) (pure v) ws) where
  on : (n : ℕ) (v : V) (ws : List Word) → test v ≡ true → go (suc n) v ws ≡ and_then (turn v ws) (after_turn (go n))
  on n v ws e = turns n v ws ∙ ap (λ (b : Bool). cond b (λ u. and_then (turn v u) (after_turn (go n))) (pure v) ws) e

  pub stops : (n : ℕ) (s : S) (ws : List Word) → test (see s) ≡ false → go (suc n) (see s) ws ≡ Ok (see s, ws)
  stops n s ws e = turns n (see s) ws ∙ ap (λ (b : Bool). cond b (λ u. and_then (turn (see s) u) (after_turn (go n))) (pure (see s)) ws) e

  pub fails : (n : ℕ) (s : S) (ws : List Word) (error : ParseError) (left : List Word) → test (see s) ≡ true → Reads (see_turn see) (turn (see s) ws) (Err error) left → Reads see (go (suc n) (see s) ws) (Err error) left
  fails n s ws error left e h = subst (λ (o : Outcome V). Reads see o (Err error) left) (sym (on n (see s) ws e)) (reads_fault (see_turn see) see (turn (see s) ws) (after_turn (go n)) error left h)

  pub ended : (n : ℕ) (s last : S) (ws m : List Word) → test (see s) ≡ true → Reads (see_turn see) (turn (see s) ws) (Ok (Done last)) m → go (suc n) (see s) ws ≡ Ok (see last, m)
  ended n s last ws m e h = on n (see s) ws e ∙ ap (λ (o : Outcome (Turn V)). and_then o (after_turn (go n))) (read_is (see_turn see) (turn (see s) ws) (Done last) m h)

  pub goes : (n : ℕ) (s more : S) (ws m : List Word) → test (see s) ≡ true → Reads (see_turn see) (turn (see s) ws) (Ok (More more)) m → go (suc n) (see s) ws ≡ go n (see more) m
  goes n s more ws m e h = on n (see s) ws e ∙ ap (λ (o : Outcome (Turn V)). and_then o (after_turn (go n))) (read_is (see_turn see) (turn (see s) ws) (More more) m h)

  pub spent : (n : ℕ) (s more : S) (ws m : List Word) → test (see s) ≡ true → Reads (see_turn see) (turn (see s) ws) (Ok (More more)) m → n ≡ 0 → go (suc n) (see s) ws ≡ Ok (see more, m)
  spent n s more ws m e h none_left = goes n s more ws m e h ∙ ap (λ (k : ℕ). go k (see more) m) none_left ∙ ends (see more) m

  fewer : (n : ℕ) → (n ≡ 0 → ⊥) → suc (n - 1) ≡ n
  fewer n some = omega (arith, some)

  pub goes_on : (n : ℕ) (s more : S) (ws m : List Word) → test (see s) ≡ true → Reads (see_turn see) (turn (see s) ws) (Ok (More more)) m → (n ≡ 0 → ⊥) → go (suc (n - 1)) (see more) m ≡ go (suc n) (see s) ws
  goes_on n s more ws m e h some = ap (λ (k : ℕ). go k (see more) m) (fewer n some) ∙ sym (goes n s more ws m e h)

  -- ---- at any turn, where what is still to be read gives the whole

  module _ (whole : Outcome V) (n : ℕ) (s : S) (ws : List Word) (b : Bool) (same : go (suc n) (see s) ws ≡ whole) (has : b ≡ test (see s)) where
    pub at_end : b ≡ false → Reads see whole (Ok s) ws
    at_end off = reads_ok see whole s ws (sym same ∙ stops n s ws (sym has ∙ off))

    pub at_fault : (error : ParseError) (m : List Word) → b ≡ true → Reads (see_turn see) (turn (see s) ws) (Err error) m → Reads see whole (Err error) m
    at_fault error m e h = reads_as see (go (suc n) (see s) ws) whole (Err error) m same (fails n s ws error m (sym has ∙ e) h)

    pub at_done : (last : S) (m : List Word) (t : Turn S) → b ≡ true → Reads (see_turn see) (turn (see s) ws) (Ok t) m → t ≡ Done last → Reads see whole (Ok last) m
    at_done last m t e h is = reads_ok see whole last m (sym same ∙ ended n s last ws m (sym has ∙ e) (subst (λ (t : Turn S). Reads (see_turn see) (turn (see s) ws) (Ok t) m) is h))

    pub at_spent : (next : S) (m : List Word) (t : Turn S) → b ≡ true → Reads (see_turn see) (turn (see s) ws) (Ok t) m → t ≡ More next → n ≡ 0 → Reads see whole (Ok next) m
    at_spent next m t e h is none_left = reads_ok see whole next m (sym same ∙ spent n s next ws m (sym has ∙ e) (subst (λ (t : Turn S). Reads (see_turn see) (turn (see s) ws) (Ok t) m) is h) none_left)

    pub at_more : (next : S) (m : List Word) (t : Turn S) → b ≡ true → Reads (see_turn see) (turn (see s) ws) (Ok t) m → t ≡ More next → (n ≡ 0 → ⊥) → go (suc (n - 1)) (see next) m ≡ whole
    at_more next m t e h is some = goes_on n s next ws m (sym has ∙ e) (subst (λ (t : Turn S). Reads (see_turn see) (turn (see s) ws) (Ok t) m) is h) some ∙ same
