-- Loops that take a step at each turn: it finishes what is read, or goes on.
use Rattle.std.proofs.Common.{◌≡◌, ℕ, zero, suc, ◌-◌, List, Result, Ok, Err, refl, sym, ap, subst, ◌∙◌, arith}
use Rattle.ui_grammar.specs.Word.{Word}
use Rattle.ui_parse.specs.declared.fault.ParseError.{ParseError}
use Rattle.ui_parse.specs.declared.fault.ParseError.TheVariants.{Fault}
use Rattle.ui_parse.specs.Reader.{Outcome, Reader, and_then, pure}
use Rattle.ui_parse.specs.View.{Reads}
use Rattle.ui_parse.proofs.ListLaws.{reads_fault}
use Rattle.ui_pstmt.specs.Seen.{Step, finished, going}
use Rattle.ui_pstmt.specs.Turns.{after_step}

read_is : {A X : Type 0} (see : X → A) (o : Outcome A) (x : X) (m : List Word) → Reads see o (Ok x) m → o ≡ Ok (see x, m)
read_is see (Ok p) x m h = rw (h.0, h.1) refl
read_is see (Err ws) x m h = absurd h

-- what was read in all, or a fault there
pub whole_read : {A B X : Type 0} (see : X → B) (whole : Outcome A) (f : A → B) (a : A) (x : X) (left : List Word) → whole ≡ Ok (a, left) → see x ≡ f a → Reads see (and_then whole (λ a. pure (f a))) (Ok x) left
whole_read {A = A} see whole f a x left e same = subst (λ (o : Outcome A). Reads see (and_then o (λ a. pure (f a))) (Ok x) left) (sym e) (same, refl)

pub whole_fault : {A B X : Type 0} (see : X → B) (whole : Outcome A) (f : A → B) (left : List Word) → whole ≡ Err left → Reads see (and_then whole (λ a. pure (f a))) (Err Fault) left
whole_fault {A = A} see whole f left e = subst (λ (o : Outcome A). Reads see (and_then o (λ a. pure (f a))) (Err Fault) left) (sym e) refl

module _ {T A V : Type 0} (see : T → Step A V) (turn : V → Reader (Step A V)) (go : ℕ → V → Reader A)
    (ends : (v : V) (ws : List Word) → go zero v ws ≡ Err ws)
    (turns : (n : ℕ) (v : V) (ws : List Word) → go (suc n) v ws ≡ and_then (turn v ws) (after_step (go n)))
    (whole : Outcome A) (n : ℕ) (v : V) (ws m : List Word) (same : go (suc n) v ws ≡ whole) where
  stepped : (t : T) → Reads see (turn v ws) (Ok t) m → whole ≡ after_step (go n) (see t) m
  stepped t h = sym same ∙ turns n v ws ∙ ap (λ (o : Outcome (Step A V)). and_then o (after_step (go n))) (read_is see (turn v ws) t m h)

  pub at_end : (t : T) (a : A) → Reads see (turn v ws) (Ok t) m → see t ≡ finished a → whole ≡ Ok (a, m)
  at_end t a h is = stepped t h ∙ ap (λ (s : Step A V). after_step (go n) s m) is

  to_next : (t : T) (next : V) → Reads see (turn v ws) (Ok t) m → see t ≡ going next → whole ≡ go n next m
  to_next t next h is = stepped t h ∙ ap (λ (s : Step A V). after_step (go n) s m) is

  pub at_spent : (t : T) (next : V) → Reads see (turn v ws) (Ok t) m → see t ≡ going next → n ≡ 0 → whole ≡ Err m
  at_spent t next h is none = to_next t next h is ∙ ap (λ (k : ℕ). go k next m) none ∙ ends next m

  pub at_more : (t : T) (next : V) → Reads see (turn v ws) (Ok t) m → see t ≡ going next → (n ≡ 0 → ⊥) → go (suc (n - 1)) next m ≡ whole
  at_more t next h is some = let fewer : suc (n - 1) ≡ n = omega (arith, some) in ap (λ (k : ℕ). go k next m) fewer ∙ sym (to_next t next h is)

  pub at_fault : {B X : Type 0} (see' : X → B) (f : A → B) (e : ParseError) → Reads see (turn v ws) (Err e) m → Reads see' (and_then whole (λ a. pure (f a))) (Err e) m
  at_fault see' f e h = reads_fault (λ (a : A). a) see' whole (λ a. pure (f a)) e m
      (subst (λ (o : Outcome A). Reads (λ (a : A). a) o (Err e) m) (sym (turns n v ws) ∙ same) (reads_fault see (λ (a : A). a) (turn v ws) (after_step (go n)) e m h))
