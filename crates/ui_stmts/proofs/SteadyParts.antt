-- Parts that may be left out, and readings side by side, depend on the words up to the next one alone.
use Rattle.std.proofs.Common.{◌≡◌, ℕ, ◌<◌, ◌≤◌, Bool, true, false, cond, List, [], ◌∷◌, ◌++◌, length, Option, Some, None, Ok, Err, refl, sym, ap, subst, ◌∙◌, append_assoc, arith}
use Rattle.std.specs.Prelude.{nat_eq, nat_le}
use Rattle.std.proofs.lemmas.Bool.{leb-true, leb-false, eqb-true, eqb-false}
use Rattle.std.proofs.lemmas.List.{length-append, append_cancel_right}
use Rattle.ui_base.specs.declared.value.Spot.{Spot}
use Rattle.ui_scan.specs.declared.kind.TokenKind.{TokenKind}
use Rattle.ui_grammar.specs.Word.{Word}
use Rattle.ui_parse.specs.Reader.{Outcome, Reader, and_then, pure, refuse, taken, take_by, marked, expect, rest_of}
use Rattle.ui_parse.proofs.Outcomes.{good, bad, either}
use Rattle.ui_parse.proofs.Alike.{Suffix, suffix_all, Ends, Tails, one_tail, other_tail, MayBeLeft, Alike, outcome, rest_is, same_rest, more_left}
use Rattle.ui_parse.proofs.Steady.{Steady}
use Rattle.ui_stmts.specs.Common.{none_at, maybe_of, maybe}
use Rattle.ui_stmts.specs.Decls.{farther}

-- ---- outcomes by their parts

with_rest : {A : Type 0} → Outcome A → List Word → Outcome A
with_rest (Ok p) ws = Ok (p.0, ws)
with_rest (Err us) ws = Err ws

outcome_with : {A : Type 0} (x : Option A) (ws us : List Word) → with_rest (outcome x ws) us ≡ outcome x us
unfolding with_rest
outcome_with None ws us = refl
outcome_with (Some a) ws us = refl

-- each outcome is one
whole : {A : Type 0} (o : Outcome A) → (x : Option A) × (o ≡ outcome x (rest_of o))
whole (Ok p) = (Some p.0, refl)
whole (Err ws) = (None, refl)

-- the same with other words left
moved : {A : Type 0} (x y : Option A) (ws us vs : List Word) → outcome x ws ≡ outcome y us → outcome x vs ≡ outcome y vs
moved x y ws us vs e = sym (outcome_with x ws vs) ∙ ap (λ (o : Outcome _). with_rest o vs) e ∙ outcome_with y us vs

rest_ends : {A : Type 0} (ws : List Word) (o : Outcome A) → Ends ws o → Suffix ws (rest_of o)
rest_ends ws (Ok p) e = e.holds
rest_ends ws (Err us) e = e.holds

-- of two ends of a list the longer ends in the shorter
within : (f g a b : List Word) → f ++ a ≡ g ++ b → length a ≤ length b → Suffix b a
within f [] a b e le = record { front = f; parts = sym e }
within [] (w ∷ g) a b e le = absurd (omega (arith, ap length e, length-append g b))
within (v ∷ f) (w ∷ g) a b e le = let rest : f ++ a ≡ g ++ b = cc in within f g a b rest le

suffix_within : (ws a b : List Word) → Suffix ws a → Suffix ws b → length a ≤ length b → Suffix b a
suffix_within ws a b s t le = within s.front t.front a b (sym s.parts ∙ t.parts) le

suffix_same : (ws a : List Word) → Suffix ws a → length a ≡ length ws → a ≡ ws
suffix_same ws a s e = by_front s.front s.parts
  where
    by_front : (front : List Word) → ws ≡ front ++ a → a ≡ ws
    by_front [] parts = sym parts
    by_front (w ∷ front) parts = absurd (omega (arith, ap length parts, length-append front a, e))

-- ---- a part that may be left out

pub none_ends : {A : Type 0} (b : Bool) (ws rest : List Word) → Suffix ws rest → Ends ws (none_at {A = A} b ws rest)
none_ends true ws rest s = good (suffix_all ws)
none_ends false ws rest s = bad s

pub maybe_ends : {A : Type 0} (ws : List Word) (o : Outcome A) → Ends ws o → Ends ws (maybe_of ws o)
maybe_ends ws (Ok p) e = good e.holds
maybe_ends ws (Err rest) e = none_ends (nat_eq (length rest) (length ws)) ws rest e.holds

none_same : {A : Type 0} (ws : List Word) → none_at {A = A} (nat_eq (length ws) (length ws)) ws ws ≡ Ok (None, ws)
none_same {A = A} ws = by_test (nat_eq (length ws) (length ws)) refl
  where
    by_test : (b : Bool) → nat_eq (length ws) (length ws) ≡ b → none_at {A = A} b ws ws ≡ Ok (None, ws)
    by_test true e = refl
    by_test false e = absurd (eqb-false (length ws) (length ws) e refl)

fault_same : {A : Type 0} (ws rest : List Word) → (length rest ≡ length ws → ⊥) → none_at {A = A} (nat_eq (length rest) (length ws)) ws rest ≡ Err rest
fault_same {A = A} ws rest differ = by_test (nat_eq (length rest) (length ws)) refl
  where
    by_test : (b : Bool) → nat_eq (length rest) (length ws) ≡ b → none_at {A = A} b ws rest ≡ Err rest
    by_test true e = absurd (differ (eqb-true (length rest) (length ws) e))
    by_test false e = refl

module _ {A : Type 0} (tails : Tails) (text : List Word) where
  none_alike : (o' : Outcome A) (rest : List Word) (b : Bool) → nat_eq (length rest) (length (text ++ one_tail tails)) ≡ b → Suffix (text ++ one_tail tails) rest → Alike tails (Err rest) o'
      → Alike tails (none_at {A = A} b (text ++ one_tail tails) rest) (maybe_of (text ++ other_tail tails) o')
  none_alike o' rest true test s same = record {
    is = λ x left may h.
        let at : text ≡ left = append_cancel_right text left (one_tail tails) (same_rest {A = Option A} (Some None) x (text ++ one_tail tails) (left ++ one_tail tails) h) in
        let all : rest ≡ text ++ one_tail tails = suffix_same (text ++ one_tail tails) rest s (eqb-true (length rest) (length (text ++ one_tail tails)) test) in
        let e : o' ≡ Err (text ++ other_tail tails) = same.is None text (subst (MayBeLeft tails) (sym at) may) (ap (outcome {A = A} None) all) in
        ap (maybe_of (text ++ other_tail tails)) e ∙ none_same (text ++ other_tail tails) ∙ ap (λ (v : List Word). outcome {A = Option A} (Some None) (v ++ other_tail tails)) at
        ∙ moved {A = Option A} (Some None) x (text ++ one_tail tails) (left ++ one_tail tails) (left ++ other_tail tails) h;
  }
  none_alike o' rest false test s same = record {
    is = λ x left may h.
        let at : rest ≡ left ++ one_tail tails = same_rest {A = Option A} None x rest (left ++ one_tail tails) h in
        let e : o' ≡ Err (left ++ other_tail tails) = same.is None left may (ap (outcome {A = A} None) at) in
        ap (maybe_of (text ++ other_tail tails)) e
        ∙ fault_same (text ++ other_tail tails) (left ++ other_tail tails)
        (λ long. eqb-false (length rest) (length (text ++ one_tail tails)) test (omega (arith, long, ap length at, length-append left (one_tail tails), length-append text (one_tail tails), length-append left (other_tail tails), length-append text (other_tail tails))))
        ∙ moved {A = Option A} None x rest (left ++ one_tail tails) (left ++ other_tail tails) h;
  }

  maybe_alike : (o o' : Outcome A) → Ends (text ++ one_tail tails) o → Alike tails o o' → Alike tails (maybe_of (text ++ one_tail tails) o) (maybe_of (text ++ other_tail tails) o')
  maybe_alike (Ok p) o' e same = record {
    is = λ x left may h.
        let at : p.1 ≡ left ++ one_tail tails = same_rest (Some (Some p.0)) x p.1 (left ++ one_tail tails) h in
        ap (maybe_of (text ++ other_tail tails)) (same.is (Some p.0) left may (ap (λ (v : List Word). Ok (p.0, v)) at))
        ∙ moved (Some (Some p.0)) x p.1 (left ++ one_tail tails) (left ++ other_tail tails) h;
  }
  maybe_alike (Err rest) o' e same = none_alike o' rest (nat_eq (length rest) (length (text ++ one_tail tails))) refl e.holds same

pub steady_maybe : {A : Type 0} {p : Reader A} → Steady p → Steady (maybe p)
unfolding maybe
steady_maybe {p = p} is = record {
  ends = λ ws. maybe_ends ws (p ws) (is.ends ws);
  alike = λ tails text. maybe_alike tails text (p (text ++ one_tail tails)) (p (text ++ other_tail tails)) (is.ends (text ++ one_tail tails)) (is.alike tails text);
}

-- ---- two readings side by side

abbrev pub farther_of : {A : Type 0} → Outcome A → Outcome A → Outcome A
farther_of o u = cond (nat_le (length (rest_of o)) (length (rest_of u))) o u

le_true : (a b : ℕ) (c : Bool) → nat_le a b ≡ c → a ≤ b → c ≡ true
le_true a b true e le = refl
le_true a b false e le = let lt = leb-false _ _ e in absurd (omega (arith, lt, le))

le_false : (a b : ℕ) (c : Bool) → nat_le a b ≡ c → b < a → c ≡ false
le_false a b true e lt = let le = leb-true _ _ e in absurd (omega (arith, lt, le))
le_false a b false e lt = refl

takes_first : {A : Type 0} (o u : Outcome A) (y z : Option A) (a b : List Word) → o ≡ outcome y a → u ≡ outcome z b → length a ≤ length b → farther_of o u ≡ outcome y a
takes_first o u y z a b eo eu le =
    let la : length (rest_of o) ≡ length a = ap (λ (v : Outcome _). length (rest_of v)) eo ∙ ap length (rest_is y a) in
    let lb : length (rest_of u) ≡ length b = ap (λ (v : Outcome _). length (rest_of v)) eu ∙ ap length (rest_is z b) in
    rw (le_true (length (rest_of o)) (length (rest_of u)) (nat_le (length (rest_of o)) (length (rest_of u))) refl (omega (arith, la, lb, le))) eo

takes_second : {A : Type 0} (o u : Outcome A) (y z : Option A) (a b : List Word) → o ≡ outcome y a → u ≡ outcome z b → length b < length a → farther_of o u ≡ outcome z b
takes_second o u y z a b eo eu lt =
    let la : length (rest_of o) ≡ length a = ap (λ (v : Outcome _). length (rest_of v)) eo ∙ ap length (rest_is y a) in
    let lb : length (rest_of u) ≡ length b = ap (λ (v : Outcome _). length (rest_of v)) eu ∙ ap length (rest_is z b) in
    rw (le_false (length (rest_of o)) (length (rest_of u)) (nat_le (length (rest_of o)) (length (rest_of u))) refl (omega (arith, la, lb, lt))) eu

module _ {A : Type 0} (tails : Tails) (text : List Word) (o u o' u' : Outcome A) (o_ends : Ends (text ++ one_tail tails) o) (u_ends : Ends (text ++ one_tail tails) u) (o_same : Alike tails o o') (u_same : Alike tails u u') where
  -- the other outcome, where it leaves at least as much
  pub record Behind (v v' : Outcome A) (left : List Word) : Type 0 where
    pub value : Option A
    pub more : List Word
    pub is : v ≡ outcome value ((more ++ left) ++ one_tail tails)
    pub is_too : v' ≡ outcome value ((more ++ left) ++ other_tail tails)

  behind : (v v' : Outcome A) (a left : List Word) → Ends (text ++ one_tail tails) v → Alike tails v v' → Suffix (text ++ one_tail tails) a → a ≡ left ++ one_tail tails → length a ≤ length (rest_of v) → MayBeLeft tails left → Behind v v' left
  behind v v' a left ends same s at le may =
      let w = whole v in
      let more = suffix_within (text ++ one_tail tails) a (rest_of v) s (rest_ends (text ++ one_tail tails) v ends) le in
      let parts : rest_of v ≡ (more.front ++ left) ++ one_tail tails = more.parts ∙ ap (λ (z : List Word). more.front ++ z) at ∙ sym (append_assoc more.front left (one_tail tails)) in
      let is : v ≡ outcome w.0 ((more.front ++ left) ++ one_tail tails) = w.1 ∙ ap (outcome w.0) parts in
      record { value = w.0; more = more.front; is = is; is_too = same.is w.0 (more.front ++ left) (more_left tails more.front left may) is }

  first_alike : length (rest_of o) ≤ length (rest_of u) → Alike tails o (farther_of o' u')
  first_alike le = record {
    is = λ x left may h.
        let at : rest_of o ≡ left ++ one_tail tails = ap rest_of h ∙ rest_is x (left ++ one_tail tails) in
        let b = behind u u' (rest_of o) left u_ends u_same (rest_ends (text ++ one_tail tails) o o_ends) at le may in
        takes_first o' u' x b.value (left ++ other_tail tails) ((b.more ++ left) ++ other_tail tails) (o_same.is x left may h) b.is_too
        (omega (arith, length-append (b.more ++ left) (other_tail tails), length-append b.more left, length-append left (other_tail tails)));
  }

  second_alike : length (rest_of u) < length (rest_of o) → Alike tails u (farther_of o' u')
  second_alike lt = record {
    is = λ x left may h.
        let at : rest_of u ≡ left ++ one_tail tails = ap rest_of h ∙ rest_is x (left ++ one_tail tails) in
        let b = behind o o' (rest_of u) left o_ends o_same (rest_ends (text ++ one_tail tails) u u_ends) at (omega (arith, lt)) may in
        let long : length (rest_of o) ≡ length ((b.more ++ left) ++ one_tail tails) = ap (λ (v : Outcome A). length (rest_of v)) b.is ∙ ap length (rest_is b.value ((b.more ++ left) ++ one_tail tails)) in
        takes_second o' u' b.value x ((b.more ++ left) ++ other_tail tails) (left ++ other_tail tails) b.is_too (u_same.is x left may h)
        (omega (arith, lt, long, ap length at, length-append (b.more ++ left) (one_tail tails), length-append (b.more ++ left) (other_tail tails), length-append b.more left, length-append left (other_tail tails), length-append left (one_tail tails)));
  }

  farther_alike : Alike tails (farther_of o u) (farther_of o' u')
  farther_alike = by_test (nat_le (length (rest_of o)) (length (rest_of u))) refl
    where
      by_test : (b : Bool) → nat_le (length (rest_of o)) (length (rest_of u)) ≡ b → Alike tails (cond b o u) (farther_of o' u')
      by_test true e = first_alike (leb-true _ _ e)
      by_test false e = second_alike (leb-false _ _ e)

pub steady_farther : {A : Type 0} {p q : Reader A} → Steady p → Steady q → Steady (farther p q)
unfolding farther
steady_farther {p = p} {q = q} p_is q_is = record {
  ends = λ ws. either (nat_le (length (rest_of (p ws))) (length (rest_of (q ws)))) (p ws) (q ws) (λ _. p_is.ends ws) (λ _. q_is.ends ws);
  alike = λ tails text.
      farther_alike tails text (p (text ++ one_tail tails)) (q (text ++ one_tail tails)) (p (text ++ other_tail tails)) (q (text ++ other_tail tails))
      (p_is.ends (text ++ one_tail tails)) (q_is.ends (text ++ one_tail tails)) (p_is.alike tails text) (q_is.alike tails text);
}

-- ---- a mark that is taken leaves fewer words

pub expect_same : {A : Type 0} (k : TokenKind) (f g : Spot → Reader A) (ws : List Word) → ((s : Spot) (rest : List Word) → length rest < length ws → f s rest ≡ g s rest) → and_then (expect k ws) f ≡ and_then (expect k ws) g
unfolding expect take_by
expect_same k f g [] same = refl
expect_same k f g (w ∷ ws) same = by_test (marked k w)
  where
    by_test : (x : Option Spot) → and_then (taken x pure refuse (w ∷ ws)) f ≡ and_then (taken x pure refuse (w ∷ ws)) g
    by_test None = refl
    by_test (Some s) = same s ws (omega arith)
