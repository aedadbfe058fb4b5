-- Two readers that read the same of each list of fewer words than a number.
use Rattle.std.proofs.Common.{◌≡◌, ℕ, zero, suc, ◌-◌, ◌<◌, ◌≤◌, Bool, true, false, cond, List, length, Option, Ok, Err, refl, sym, ap, subst, ◌∙◌, arith}
use Rattle.std.specs.Prelude.{nat_le}
use Rattle.ui_base.specs.declared.value.Spot.{Spot}
use Rattle.ui_scan.specs.declared.kind.TokenKind.{TokenKind}
use Rattle.ui_grammar.specs.Word.{Word}
use Rattle.ui_parse.specs.Reader.{Outcome, Reader, and_then, ◌>>=◌, pure, refuse, take_by, marked, expect, chain_from, chain, Ending, closing, behind, parts_from, parts, more_parts, rest_of}
use Rattle.ui_parse.proofs.Outcomes.{good, bad, mono, either, taken_holds}
use Rattle.ui_parse.proofs.Alike.{Suffix, suffix_all, suffix_tail, suffix_then, suffix_length, Ends}
use Rattle.ui_parse.proofs.Steady.{Steady, steady_eat, steady_expect, take_same}
use Rattle.ui_stmts.specs.Common.{maybe_of, maybe}
use Rattle.ui_stmts.specs.Decls.{farther}
use Rattle.ui_stmts.proofs.SteadyParts.{maybe_ends, farther_of}
use Rattle.ui_depth.proofs.Depths.{Each, any_value}
use Rattle.ui_depth.proofs.DeepParams.{then_take}

pub record Settled {A : Type 0} (n : ℕ) (p q : Reader A) : Type 0 where
  pub at : (ws : List Word) → length ws < n → p ws ≡ q ws
  pub ends : (ws : List Word) → length ws < n → Ends ws (p ws)

-- ---- the ways to build a reader

pub settled_same : {A : Type 0} {n : ℕ} {p : Reader A} → Steady p → Settled n p p
settled_same h = record { at = λ ws lt. refl; ends = λ ws lt. h.ends ws }

pub settled_pure : {A : Type 0} {n : ℕ} (a : A) → Settled n (pure a) (pure a)
settled_pure a = record { at = λ ws lt. refl; ends = λ ws lt. good (suffix_all ws) }

pub settled_refuse : {A : Type 0} {n : ℕ} → Settled n (refuse {A = A}) refuse
settled_refuse = record { at = λ ws lt. refl; ends = λ ws lt. bad (suffix_all ws) }

pub settled_fewer : {A : Type 0} {n : ℕ} (m : ℕ) {p q : Reader A} → m ≤ n → Settled n p q → Settled m p q
settled_fewer m le h = record { at = λ ws lt. h.at ws (omega (arith, le, lt)); ends = λ ws lt. h.ends ws (omega (arith, le, lt)) }

-- as others that read the same
pub settled_as : {A : Type 0} {n : ℕ} {p q : Reader A} (p' q' : Reader A) → ((ws : List Word) → p' ws ≡ p ws) → ((ws : List Word) → q' ws ≡ q ws) → Settled n p q → Settled n p' q'
settled_as p' q' ep eq h = record { at = λ ws lt. ep ws ∙ h.at ws lt ∙ sym (eq ws); ends = λ ws lt. subst (Ends ws) (sym (ep ws)) (h.ends ws lt) }

module _ {A B : Type 0} (P : A → Type 0) (ws : List Word) (f g : A → Reader B) where
  then_at : (o o' : Outcome A) → o ≡ o' → Ends ws o → Each P o → ((a : A) (u : List Word) → Suffix ws u → P a → f a u ≡ g a u) → and_then o f ≡ and_then o' g
  then_at (Ok p) o' e ends each on = on p.0 p.1 ends.holds each.holds ∙ ap (λ (x : Outcome A). and_then x g) e
  then_at (Err u) o' e ends each on = ap (λ (x : Outcome A). and_then x g) e

  then_ends : (o : Outcome A) → Ends ws o → Each P o → ((a : A) (u : List Word) → Suffix ws u → P a → Ends u (f a u)) → Ends ws (and_then o f)
  then_ends (Ok p) ends each on = mono (on p.0 p.1 ends.holds each.holds) (λ b r s. suffix_then ws p.1 r ends.holds s) (λ r s. suffix_then ws p.1 r ends.holds s)
  then_ends (Err u) ends each on = bad ends.holds

-- with what is known of what was read
pub settled_bind_at : {A B : Type 0} {n : ℕ} {p q : Reader A} {f g : A → Reader B} (P : A → Type 0) → Settled n p q → ((ws : List Word) → length ws < n → Each P (p ws)) → ((a : A) → P a → Settled n (f a) (g a)) → Settled n (p >>= f) (q >>= g)
settled_bind_at {p = p} {q = q} {f = f} {g = g} P h each on = record {
  at = λ ws lt. then_at P ws f g (p ws) (q ws) (h.at ws lt) (h.ends ws lt) (each ws lt) (λ a u s pa. (on a pa).at u (omega (arith, lt, suffix_length ws u s)));
  ends = λ ws lt. then_ends P ws f g (p ws) (h.ends ws lt) (each ws lt) (λ a u s pa. (on a pa).ends u (omega (arith, lt, suffix_length ws u s)));
}

pub settled_bind : {A B : Type 0} {n : ℕ} {p q : Reader A} {f g : A → Reader B} → Settled n p q → ((a : A) → Settled n (f a) (g a)) → Settled n (p >>= f) (q >>= g)
settled_bind {p = p} h on = settled_bind_at (λ a. Unit {0}) h (λ ws lt. any_value (p ws)) (λ a _. on a)

pub settled_if : {A : Type 0} {n : ℕ} (b : Bool) {p q p' q' : Reader A} → Settled n p q → Settled n p' q' → Settled n (cond b p p') (cond b q q')
settled_if true on off = on
settled_if false on off = off

-- by tests that agree
pub settled_agree : {A : Type 0} {n : ℕ} (b c : Bool) {p q p' q' : Reader A} → b ≡ c → Settled n p q → Settled n p' q' → Settled n (cond b p p') (cond c q q')
settled_agree {n = n} b c {p = p} {q = q} {p' = p'} {q' = q'} e on off = subst (λ (x : Bool). Settled n (cond b p p') (cond x q q')) e (settled_if b on off)

-- where both have room
pub settled_room : {A : Type 0} {n : ℕ} (b c : Bool) {p q : Reader A} (p' q' : Reader A) → b ≡ true → c ≡ true → Settled n p q → Settled n (cond b p p') (cond c q q')
settled_room b c {p = p} {q = q} p' q' b_is c_is h = settled_as (cond b p p') (cond c q q') (λ ws. rw b_is refl) (λ ws. rw c_is refl) h

-- ---- the first word

module _ {A B : Type 0} {n : ℕ} (test : Word → Option B) {on on' : B → Reader A} {other other' : Reader A} where
  -- of what follows a word that is taken, one word fewer
  pub settled_first : ((b : B) → Settled n (on b) (on' b)) → Settled (suc n) other other' → Settled (suc n) (take_by test on other) (take_by test on' other')
  settled_first on_is other_is = record {
    at = λ ws lt. take_same test on on' other other' ws (λ b rest less. (on_is b).at rest (omega (arith, lt, less))) (other_is.at ws lt);
    ends = λ ws lt. taken_holds test on other ws
        (λ b w rest e h. subst (λ (v : List Word). Ends v (on b rest)) (sym e)
        (mono ((on_is b).ends rest (omega (arith, lt, ap length e))) (λ a r s. suffix_tail w rest r s) (λ r s. suffix_tail w rest r s)))
        (λ e. other_is.ends ws lt);
  }

  pub settled_take : ((b : B) → Settled n (on b) (on' b)) → Settled n other other' → Settled n (take_by test on other) (take_by test on' other')
  settled_take on_is other_is = record {
    at = λ ws lt. take_same test on on' other other' ws (λ b rest less. (on_is b).at rest (omega (arith, lt, less))) (other_is.at ws lt);
    ends = λ ws lt. taken_holds test on other ws
        (λ b w rest e h. subst (λ (v : List Word). Ends v (on b rest)) (sym e)
        (mono ((on_is b).ends rest (omega (arith, lt, ap length e))) (λ a r s. suffix_tail w rest r s) (λ r s. suffix_tail w rest r s)))
        (λ e. other_is.ends ws lt);
  }

  -- likewise, of any number
  pub settled_next : ((b : B) → Settled (n - 1) (on b) (on' b)) → Settled n other other' → Settled n (take_by test on other) (take_by test on' other')
  settled_next on_is other_is = record {
    at = λ ws lt. take_same test on on' other other' ws (λ b rest less. (on_is b).at rest (omega (arith, lt, less))) (other_is.at ws lt);
    ends = λ ws lt. taken_holds test on other ws
        (λ b w rest e h. subst (λ (v : List Word). Ends v (on b rest)) (sym e)
        (mono ((on_is b).ends rest (omega (arith, lt, ap length e))) (λ a r s. suffix_tail w rest r s) (λ r s. suffix_tail w rest r s)))
        (λ e. other_is.ends ws lt);
  }

pub settled_expect : {A : Type 0} {n : ℕ} (k : TokenKind) {f g : Spot → Reader A} → ((s : Spot) → Settled (n - 1) (f s) (g s)) → Settled n (expect k >>= f) (expect k >>= g)
unfolding expect
settled_expect k {f = f} {g = g} on = settled_as (take_by (marked k) pure refuse >>= f) (take_by (marked k) pure refuse >>= g)
    (λ ws. then_take (marked k) pure refuse f ws) (λ ws. then_take (marked k) pure refuse g ws) (settled_next (marked k) on settled_refuse)

-- ---- lists

module _ {S : Type 0} {n : ℕ} (separator : TokenKind) (step step' : S → Reader S) (step_is : (s : S) → Settled n (step s) (step' s)) where
  chain_from_settled : (k : ℕ) (s : S) → Settled n (chain_from separator step k s) (chain_from separator step' k s)
  unfolding chain_from
  chain_from_settled zero s = settled_refuse
  chain_from_settled (suc k) s = settled_take (marked separator) (λ _. settled_bind (step_is s) (chain_from_settled k)) (settled_pure s)

  pub settled_chain : (s : S) → Settled n (chain separator step s) (chain separator step' s)
  unfolding chain
  settled_chain s = record { at = λ ws lt. (chain_from_settled (suc (length ws)) s).at ws lt; ends = λ ws lt. (chain_from_settled (suc (length ws)) s).ends ws lt }

module _ {S : Type 0} {n : ℕ} (separator close : TokenKind) (ending : Ending S) (step step' : S → Reader S) (step_is : (s : S) → Settled n (step s) (step' s)) where
  closing_settled : (s : S) → Settled n (closing separator close ending step s) (closing separator close ending step' s)
  closing_settled s = settled_if (ending.may s) (settled_bind (settled_same (steady_expect close)) (λ _. settled_pure s)) settled_refuse

  behind_settled : (again again' : S → Reader S) → ((s : S) → Settled n (again s) (again' s)) → (s : S) → Settled n (behind separator close ending step again s) (behind separator close ending step' again' s)
  behind_settled again again' again_is s = settled_if (ending.must s) (settled_bind (settled_same (steady_eat separator)) (λ _. closing_settled s)) (settled_take (marked separator) (λ _. again_is s) (closing_settled s))

  parts_from_settled : (k : ℕ) (s : S) → Settled n (parts_from separator close ending step k s) (parts_from separator close ending step' k s)
  unfolding parts_from
  parts_from_settled zero s = settled_refuse
  parts_from_settled (suc k) s =
      let go = settled_bind (step_is s) (behind_settled (parts_from separator close ending step k) (parts_from separator close ending step' k) (parts_from_settled k)) in
      settled_if (ending.may s) (settled_take (marked close) (λ _. settled_pure s) go) go

  pub settled_parts : (s : S) → Settled n (parts separator close ending step s) (parts separator close ending step' s)
  unfolding parts
  settled_parts s = record { at = λ ws lt. (parts_from_settled (suc (length ws)) s).at ws lt; ends = λ ws lt. (parts_from_settled (suc (length ws)) s).ends ws lt }

  pub settled_more_parts : (s : S) → Settled n (more_parts separator close ending step s) (more_parts separator close ending step' s)
  unfolding more_parts
  settled_more_parts s = behind_settled (parts separator close ending step) (parts separator close ending step') settled_parts s

-- ---- parts that may be left out, and readings side by side

pub settled_maybe : {A : Type 0} {n : ℕ} {p q : Reader A} → Settled n p q → Settled n (maybe p) (maybe q)
unfolding maybe
settled_maybe {p = p} h = record { at = λ ws lt. ap (maybe_of ws) (h.at ws lt); ends = λ ws lt. maybe_ends ws (p ws) (h.ends ws lt) }

pub settled_farther : {A : Type 0} {n : ℕ} {p q p' q' : Reader A} → Settled n p q → Settled n p' q' → Settled n (farther p p') (farther q q')
unfolding farther
settled_farther {p = p} {q = q} {p' = p'} {q' = q'} h k = record {
  at = λ ws lt. ap (λ (o : Outcome _). farther_of o (p' ws)) (h.at ws lt) ∙ ap (λ (o : Outcome _). farther_of (q ws) o) (k.at ws lt);
  ends = λ ws lt. either (nat_le (length (rest_of (p ws))) (length (rest_of (p' ws)))) (p ws) (p' ws) (λ _. h.ends ws lt) (λ _. k.ends ws lt);
}
