-- A reader beside the readers of greater budgets: on the same words they read the same, or the one stops before a word that
-- each of the others takes.
use Rattle.std.proofs.Common.{◌≡◌, ℕ, ◌≤◌, Bool, true, false, cond, List, [], ◌∷◌, length, Option, Some, None, Ok, Err, refl, sym, ap, subst, ◌∙◌, arith}
use Rattle.ui_base.specs.declared.value.Spot.{Spot}
use Rattle.ui_scan.specs.declared.kind.TokenKind.{TokenKind}
use Rattle.ui_grammar.specs.Word.{Word}
use Rattle.ui_parse.specs.Reader.{Outcome, Reader, and_then, ◌>>=◌, pure, refuse, first, taken, take_by, marked, eat, expect, rest_of as left}
use Rattle.ui_parse.proofs.Outcomes.{good, bad, taken_holds, take_other, expect_other, eat_other, mono}
use Rattle.ui_parse.proofs.Alike.{Ends, outcome, suffix_all, suffix_tail, suffix_length, ends_bind}
use Rattle.ui_parse.proofs.Steady.{Steady}

-- What was read stops before this word, at which it may stop for its depth; or a fault stands there.
pub data StopsAt {A : Type 0} (D : A → Word → Type 0) (o : Outcome A) (w : Word) (r : List Word) : Type 0 where
  reads : (a : A) → o ≡ Ok (a, w ∷ r) → D a w → StopsAt D o w r
  faults : o ≡ Err (w ∷ r) → StopsAt D o w r

-- one outcome beside those of greater budgets
pub data Deeper {A : Type 0} (D : A → Word → Type 0) (o : Outcome A) (more : ℕ → Outcome A) : Type 0 where
  alike : ((e : ℕ) → more e ≡ o) → Deeper D o more
  beyond : (w : Word) (r : List Word) → StopsAt D o w r → ((e : ℕ) → length (left (more e)) ≤ length r) → Deeper D o more

-- a reader beside those of greater budgets
pub record Deepens {A : Type 0} (D : A → Word → Type 0) (p : Reader A) (q : ℕ → Reader A) : Type 0 where
  pub at : (ws : List Word) → Deeper D (p ws) (λ e. q e ws)
  pub ends : (e : ℕ) (ws : List Word) → Ends ws (q e ws)

-- nothing stops for its depth
abbrev pub Never : {A : Type 0} → A → Word → Type 0
Never a w = ⊥

-- ---- outcomes that are known

pub stops_as : {A : Type 0} {D : A → Word → Type 0} {w : Word} {r : List Word} {o o' : Outcome A} → StopsAt D o w r → o' ≡ o → StopsAt D o' w r
stops_as {D = D} {w = w} {r = r} h e = subst (λ (x : Outcome _). StopsAt D x w r) (sym e) h

pub deeper_by : {A : Type 0} {D : A → Word → Type 0} {o : Outcome A} {more : ℕ → Outcome A} (others : ℕ → Outcome A) → Deeper D o more → ((e : ℕ) → others e ≡ more e) → Deeper D o others
deeper_by others (alike h) e = alike (λ i. e i ∙ h i)
deeper_by others (beyond w r s far) e = beyond w r s (λ i. subst (λ (x : Outcome _). length (left x) ≤ length r) (sym (e i)) (far i))

pub deeper_as : {A : Type 0} {D : A → Word → Type 0} {o o' : Outcome A} {more others : ℕ → Outcome A} → Deeper D o more → o' ≡ o → ((e : ℕ) → others e ≡ more e) → Deeper D o' others
deeper_as {D = D} {others = others} h e es = subst (λ (x : Outcome _). Deeper D x others) (sym e) (deeper_by others h es)

pub same_here : {A : Type 0} {D : A → Word → Type 0} (o : Outcome A) → Deeper D o (λ e. o)
same_here o = alike (λ e. refl)

left_of : {A : Type 0} (ws : List Word) (o : Outcome A) → Ends ws o → length (left o) ≤ length ws
left_of ws (Ok p) e = suffix_length ws p.1 e.holds
left_of ws (Err r) e = suffix_length ws r e.holds

pub not_longer : {A : Type 0} (ws : List Word) (o : Outcome A) → Ends ws o → length (left o) ≤ length ws
not_longer ws o e = left_of ws o e

-- ---- one after the other

then_left : {A B : Type 0} (o : Outcome A) (f : A → Reader B) → ((a : A) (u : List Word) → Ends u (f a u)) → length (left (and_then o f)) ≤ length (left o)
then_left (Ok p) f e = left_of p.1 (f p.0 p.1) (e p.0 p.1)
then_left (Err u) f e = omega arith

pub stops_then : {A B : Type 0} {D : A → Word → Type 0} {D' : B → Word → Type 0} (f : A → Reader B) (o : Outcome A) (w : Word) (r : List Word) → StopsAt D o w r
    → ((a : A) → o ≡ Ok (a, w ∷ r) → D a w → StopsAt D' (f a (w ∷ r)) w r) → StopsAt D' (and_then o f) w r
stops_then f o w r (reads a e d) halts = stops_as (halts a e d) (ap (λ (x : Outcome _). and_then x f) e)
stops_then f o w r (faults e) halts = faults (ap (λ (x : Outcome _). and_then x f) e)

module _ {A B : Type 0} {D' : B → Word → Type 0} (f : A → Reader B) (g : ℕ → A → Reader B) where
  alike_then : (o : Outcome A) (more : ℕ → Outcome A) → ((e : ℕ) → more e ≡ o) → ((a : A) (u : List Word) → o ≡ Ok (a, u) → Deeper D' (f a u) (λ e. g e a u)) → Deeper D' (and_then o f) (λ e. and_then (more e) (g e))
  alike_then (Ok p) more same on = deeper_by _ (on p.0 p.1 refl) (λ e. ap (λ (x : Outcome A). and_then x (g e)) (same e))
  alike_then (Err u) more same on = alike (λ e. ap (λ (x : Outcome A). and_then x (g e)) (same e))

  pub deeper_then : {D : A → Word → Type 0} {o : Outcome A} {more : ℕ → Outcome A} → Deeper D o more
      → ((a : A) (u : List Word) → o ≡ Ok (a, u) → Deeper D' (f a u) (λ e. g e a u))
      → ((a : A) (w : Word) (r : List Word) → o ≡ Ok (a, w ∷ r) → D a w → StopsAt D' (f a (w ∷ r)) w r)
      → ((e : ℕ) (a : A) (u : List Word) → Ends u (g e a u)) → Deeper D' (and_then o f) (λ e. and_then (more e) (g e))
  deeper_then {o = o} {more = more} (alike same) on halts ends = alike_then o more same on
  deeper_then {o = o} {more = more} (beyond w r s far) on halts ends = beyond w r (stops_then f o w r s (λ a. halts a w r)) (λ e. omega (arith, far e, then_left (more e) (g e) (ends e)))

pub deep_bind : {A B : Type 0} {D : A → Word → Type 0} {D' : B → Word → Type 0} {p : Reader A} {q : ℕ → Reader A} {f : A → Reader B} {g : ℕ → A → Reader B} → Deepens D p q
    → ((a : A) → Deepens D' (f a) (λ e. g e a)) → ((a : A) (w : Word) (r : List Word) → D a w → StopsAt D' (f a (w ∷ r)) w r) → Deepens D' (p >>= f) (λ e. q e >>= g e)
deep_bind {q = q} {f = f} {g = g} h on halts = record {
  at = λ ws. deeper_then f g (h.at ws) (λ a u _. (on a).at u) (λ a w r _. halts a w r) (λ e a u. (on a).ends e u);
  ends = λ e ws. ends_bind ws (q e ws) (g e) (h.ends e ws) (λ a u. (on a).ends e u);
}

-- likewise, with what is known of the words and of what was read
pub deep_bind_at : {A B : Type 0} {D : A → Word → Type 0} {D' : B → Word → Type 0} {p : Reader A} {q : ℕ → Reader A} {f : A → Reader B} {g : ℕ → A → Reader B} → Deepens D p q
    → ((ws : List Word) (a : A) (u : List Word) → p ws ≡ Ok (a, u) → Deeper D' (f a u) (λ e. g e a u))
    → ((ws : List Word) (a : A) (w : Word) (r : List Word) → p ws ≡ Ok (a, w ∷ r) → D a w → StopsAt D' (f a (w ∷ r)) w r)
    → ((e : ℕ) (a : A) (u : List Word) → Ends u (g e a u)) → Deepens D' (p >>= f) (λ e. q e >>= g e)
deep_bind_at {q = q} {f = f} {g = g} h on halts ends = record {
  at = λ ws. deeper_then f g (h.at ws) (on ws) (halts ws) ends;
  ends = λ e ws. ends_bind ws (q e ws) (g e) (h.ends e ws) (ends e);
}

-- ---- readers that no budget changes

pub deep_same : {A : Type 0} {D : A → Word → Type 0} {p : Reader A} → Steady p → Deepens D p (λ e. p)
deep_same {p = p} h = record { at = λ ws. same_here (p ws); ends = λ e ws. h.ends ws }

pub deep_pure : {A : Type 0} {D : A → Word → Type 0} (a : A) → Deepens D (pure a) (λ e. pure a)
deep_pure a = record { at = λ ws. same_here (Ok (a, ws)); ends = λ e ws. good (suffix_all ws) }

pub deep_refuse : {A : Type 0} {D : A → Word → Type 0} → Deepens D refuse (λ e. refuse)
deep_refuse = record { at = λ ws. same_here (Err ws); ends = λ e ws. bad (suffix_all ws) }

pub weaker : {A : Type 0} {D D' : A → Word → Type 0} {p : Reader A} {q : ℕ → Reader A} → ((a : A) (w : Word) → D a w → D' a w) → Deepens D p q → Deepens D' p q
weaker {D = D} {D' = D'} to h = record { at = λ ws. go (h.at ws); ends = h.ends }
  where
    stop : {o : Outcome _} {w : Word} {r : List Word} → StopsAt D o w r → StopsAt D' o w r
    stop {w = w} (reads a e d) = reads a e (to a w d)
    stop (faults e) = faults e

    go : {o : Outcome _} {more : ℕ → Outcome _} → Deeper D o more → Deeper D' o more
    go (alike h) = alike h
    go (beyond w r s far) = beyond w r (stop s) far

-- ---- tests that are the same for each budget, and tests that greater budgets pass

pub deep_if : {A : Type 0} {D : A → Word → Type 0} (b : Bool) {p p' : Reader A} {q q' : ℕ → Reader A} → Deepens D p q → Deepens D p' q' → Deepens D (cond b p p') (λ e. cond b (q e) (q' e))
deep_if true on off = on
deep_if false on off = off

-- the greater budgets alone go by the test
pub deep_split : {A : Type 0} {D : A → Word → Type 0} (b : Bool) {p : Reader A} {q q' : ℕ → Reader A} → (b ≡ true → Deepens D p q) → (b ≡ false → Deepens D p q') → Deepens D p (λ e. cond b (q e) (q' e))
deep_split true on off = on refl
deep_split false on off = off refl

pub cond_on : {A : Type 0} (b : Bool) (p p' : Reader A) (ws : List Word) → b ≡ true → cond b p p' ws ≡ p ws
cond_on b p p' ws e = rw e refl

pub cond_off : {A : Type 0} (b : Bool) (p p' : Reader A) (ws : List Word) → b ≡ false → cond b p p' ws ≡ p' ws
cond_off b p p' ws e = rw e refl

both_cases : {A : Type 0} {D : A → Word → Type 0} {p p' : Reader A} {q : ℕ → Reader A} (b : Bool) → (b ≡ true → Deepens D p q) → (b ≡ false → Deepens D p' q) → Deepens D (cond b p p') q
both_cases true on off = on refl
both_cases false on off = off refl

pub deep_room : {A : Type 0} {D : A → Word → Type 0} (b : Bool) (bs : ℕ → Bool) {p p' : Reader A} {q : ℕ → Reader A} (q' : ℕ → Reader A) → ((e : ℕ) → bs e ≡ true) → (b ≡ true → Deepens D p q) → (b ≡ false → Deepens D p' q)
    → Deepens D (cond b p p') (λ e. cond (bs e) (q e) (q' e))
deep_room b bs {q = q} q' wide on off =
    let h = both_cases b on off in
    record {
      at = λ ws. deeper_by (λ e. cond (bs e) (q e) (q' e) ws) (h.at ws) (λ e. cond_on (bs e) (q e) (q' e) ws (wide e));
      ends = λ e ws. subst (Ends ws) (sym (cond_on (bs e) (q e) (q' e) ws (wide e))) (h.ends e ws);
    }

-- each of the greater budgets passes the test
pub deep_wide : {A : Type 0} {D : A → Word → Type 0} {p : Reader A} (bs : ℕ → Bool) {q : ℕ → Reader A} (q' : ℕ → Reader A) → ((e : ℕ) → bs e ≡ true) → Deepens D p q → Deepens D p (λ e. cond (bs e) (q e) (q' e))
deep_wide {p = p} bs q' wide h = deep_room true bs {p' = p} q' wide (λ _. h) (λ off. absurd cc)

-- ---- the first word

pub take_ends : {A B : Type 0} (test : Word → Option B) (on : B → Reader A) (other : Reader A) (ws : List Word) → ((b : B) (u : List Word) → Ends u (on b u)) → Ends ws (other ws) → Ends ws (take_by test on other ws)
take_ends test on other ws on_ends other_ends = taken_holds test on other ws
    (λ b w rest e h. subst (λ (v : List Word). Ends v (on b rest)) (sym e) (mono (on_ends b rest) (λ a r s. suffix_tail w rest r s) (λ r s. suffix_tail w rest r s)))
    (λ e. other_ends)

module _ {A B : Type 0} {D : A → Word → Type 0} (test : Word → Option B) (on : B → Reader A) (other : Reader A) (ons : ℕ → B → Reader A) (others : ℕ → Reader A) where
  taken_deeper : (w : Word) (rest : List Word) (x : Option B) → test w ≡ x
      → ((b : B) → test w ≡ Some b → Deeper D (on b rest) (λ e. ons e b rest)) → (test w ≡ None → Deeper D (other (w ∷ rest)) (λ e. others e (w ∷ rest)))
      → Deeper D (taken x on other (w ∷ rest)) (λ e. taken x (ons e) (others e) (w ∷ rest))
  taken_deeper w rest None e on_is other_is = other_is e
  taken_deeper w rest (Some b) e on_is other_is = on_is b e

  pub deeper_take : (ws : List Word) → ((b : B) (w : Word) (rest : List Word) → ws ≡ w ∷ rest → test w ≡ Some b → Deeper D (on b rest) (λ e. ons e b rest))
      → (first test ws ≡ None → Deeper D (other ws) (λ e. others e ws)) → Deeper D (take_by test on other ws) (λ e. take_by test (ons e) (others e) ws)
  unfolding take_by
  deeper_take [] on_is other_is = other_is refl
  deeper_take (w ∷ rest) on_is other_is = taken_deeper w rest (test w) refl (λ b e. on_is b w rest refl e) other_is

pub deep_take : {A B : Type 0} {D : A → Word → Type 0} (test : Word → Option B) {on : B → Reader A} {other : Reader A} {ons : ℕ → B → Reader A} {others : ℕ → Reader A}
    → ((b : B) → Deepens D (on b) (λ e. ons e b)) → Deepens D other others → Deepens D (take_by test on other) (λ e. take_by test (ons e) (others e))
deep_take test {on = on} {other = other} {ons = ons} {others = others} on_is other_is = record {
  at = λ ws. deeper_take test on other ons others ws (λ b w rest _ _. (on_is b).at rest) (λ _. other_is.at ws);
  ends = λ e ws. take_ends test (ons e) (others e) ws (λ b u. (on_is b).ends e u) (other_is.ends e ws);
}

-- greater budgets alone take the word
module _ {A B : Type 0} {D : A → Word → Type 0} (test : Word → Option B) (p : Reader A) (ons : ℕ → B → Reader A) (others : ℕ → Reader A) where
  taken_ahead : (w : Word) (rest : List Word) (x : Option B) → test w ≡ x
      → ((b : B) → test w ≡ Some b → StopsAt D (p (w ∷ rest)) w rest) → ((e : ℕ) (b : B) → Ends rest (ons e b rest)) → Deeper D (p (w ∷ rest)) (λ e. others e (w ∷ rest))
      → Deeper D (p (w ∷ rest)) (λ e. taken x (ons e) (others e) (w ∷ rest))
  taken_ahead w rest None e stops ends other_is = other_is
  taken_ahead w rest (Some b) e stops ends other_is = beyond w rest (stops b e) (λ i. left_of rest (ons i b rest) (ends i b))

  pub deeper_ahead : (ws : List Word) → ((b : B) (w : Word) (rest : List Word) → ws ≡ w ∷ rest → test w ≡ Some b → StopsAt D (p ws) w rest)
      → ((e : ℕ) (b : B) (u : List Word) → Ends u (ons e b u)) → Deeper D (p ws) (λ e. others e ws) → Deeper D (p ws) (λ e. take_by test (ons e) (others e) ws)
  unfolding take_by
  deeper_ahead [] stops ends other_is = other_is
  deeper_ahead (w ∷ rest) stops ends other_is = taken_ahead w rest (test w) refl (λ b e. stops b w rest refl e) (λ e b. ends e b rest) other_is

pub deep_ahead : {A B : Type 0} {D : A → Word → Type 0} (test : Word → Option B) {p : Reader A} {ons : ℕ → B → Reader A} {others : ℕ → Reader A} → ((b : B) (w : Word) (r : List Word) → test w ≡ Some b → StopsAt D (p (w ∷ r)) w r)
    → ((e : ℕ) (b : B) (u : List Word) → Ends u (ons e b u)) → Deepens D p others → Deepens D p (λ e. take_by test (ons e) (others e))
deep_ahead {D = D} test {p = p} {ons = ons} {others = others} stops ends other_is = record {
  at = λ ws. deeper_ahead test p ons others ws (λ b w r e h. subst (λ (v : List Word). StopsAt D (p v) w r) (sym e) (stops b w r h)) ends (other_is.at ws);
  ends = λ e ws. take_ends test (ons e) (others e) ws (ends e) (other_is.ends e ws);
}

-- ---- where the lower budget reads nothing

no_value : {A : Type 0} (a : A) (u ws : List Word) → outcome {A = A} None ws ≡ Ok (a, u) → ⊥
no_value a u ws e = absurd cc

pub deep_refuse_then : {A B : Type 0} {D : A → Word → Type 0} {D' : B → Word → Type 0} {q : ℕ → Reader A} {g : ℕ → A → Reader B} → Deepens D refuse q → ((e : ℕ) (a : A) (u : List Word) → Ends u (g e a u))
    → Deepens D' refuse (λ e. q e >>= g e)
deep_refuse_then {D = D} {D' = D'} {q = q} {g = g} h ends = record {
  at = λ ws. deeper_then {D' = D'} (λ a. refuse) g {D = D} (h.at ws) (λ a u e. absurd (no_value a u ws e)) (λ a w r e d. absurd (no_value a (w ∷ r) ws e)) ends;
  ends = λ e ws. ends_bind ws (q e ws) (g e) (h.ends e ws) (ends e);
}

-- what is left out at the lower budget, and what is read behind that
value_or : {A : Type 0} → A → Outcome A → A
value_or a (Ok p) = p.0
value_or a (Err u) = a

is_none : {A : Type 0} (a : Option A) (u ws : List Word) → outcome {A = Option A} (Some None) ws ≡ Ok (a, u) → a ≡ None
unfolding value_or
is_none a u ws e = sym (ap (value_or a) e)

pub deep_none_then : {A B : Type 0} {D : Option A → Word → Type 0} {D' : B → Word → Type 0} (p : Reader B) {q : ℕ → Reader (Option A)} {g : ℕ → Option A → Reader B} → Deepens D (pure None) q
    → ((e : ℕ) (u : List Word) → g e None u ≡ p u) → ((w : Word) (r : List Word) → D None w → StopsAt D' (p (w ∷ r)) w r) → ((e : ℕ) (a : Option A) (u : List Word) → Ends u (g e a u)) → Deepens D' p (λ e. q e >>= g e)
deep_none_then {D = D} {D' = D'} p {q = q} {g = g} h same halts ends = record {
  at = λ ws. deeper_then {D' = D'} (λ a. p) g {D = D} (h.at ws)
      (λ a u e. subst (λ (x : Option _). Deeper D' (p u) (λ i. g i x u)) (sym (is_none a u ws e)) (alike (λ i. same i u)))
      (λ a w r e d. halts w r (subst (λ (x : Option _). D x w) (is_none a (w ∷ r) ws e) d)) ends;
  ends = λ e ws. ends_bind ws (q e ws) (g e) (h.ends e ws) (ends e);
}

-- ---- where nothing passes

pub then_fault : {A B : Type 0} (o : Outcome A) (f : A → Reader B) {ws : List Word} → o ≡ Err ws → and_then o f ≡ Err ws
then_fault o f e = ap (λ (x : Outcome _). and_then x f) e

pub halt_take : {A B : Type 0} {D : A → Word → Type 0} (test : Word → Option B) (on : B → Reader A) (other : Reader A) {w : Word} {r : List Word} → test w ≡ None → StopsAt D (other (w ∷ r)) w r → StopsAt D (take_by test on other (w ∷ r)) w r
halt_take test on other {w = w} {r = r} none h = stops_as h (take_other test on other (w ∷ r) none)

pub halt_expect : {B : Type 0} {D : B → Word → Type 0} (k : TokenKind) (f : Spot → Reader B) {w : Word} {r : List Word} → marked k w ≡ None → StopsAt D (and_then (expect k (w ∷ r)) f) w r
halt_expect k f {w = w} {r = r} none = faults (ap (λ (o : Outcome Spot). and_then o f) (expect_other k (w ∷ r) none))

pub halt_eat : {B : Type 0} {D : B → Word → Type 0} (k : TokenKind) (f : Option Spot → Reader B) {w : Word} {r : List Word} → marked k w ≡ None → StopsAt D (f None (w ∷ r)) w r → StopsAt D (and_then (eat k (w ∷ r)) f) w r
halt_eat k f {w = w} {r = r} none h = stops_as h (ap (λ (o : Outcome (Option Spot)). and_then o f) (eat_other k (w ∷ r) none))

pub halt_if : {A : Type 0} {D : A → Word → Type 0} (b : Bool) (p q : Reader A) {w : Word} {r : List Word} → StopsAt D (p (w ∷ r)) w r → StopsAt D (q (w ∷ r)) w r → StopsAt D (cond b p q (w ∷ r)) w r
halt_if true p q on off = on
halt_if false p q on off = off
