-- Readers that depend on the words up to the next one alone, and stop before a word as before the end of the words.
use Rattle.std.proofs.Common.{◌≡◌, ℕ, zero, suc, ◌+◌, ◌<◌, Bool, true, false, cond, List, [], ◌∷◌, ◌++◌, length, Option, Some, None, Ok, Err, refl, subst, arith}
use Rattle.std.proofs.lemmas.List.{length-append}
use Rattle.std.specs.Prelude.{nat_le}
use Rattle.ui_scan.specs.declared.kind.TokenKind.{TokenKind}
use Rattle.ui_grammar.specs.Word.{Word}
use Rattle.ui_parse.specs.Reader.{Outcome, Reader, and_then, ◌>>=◌, pure, refuse, first, taken, take_by, marked, named, eat, expect, expect_name, within, chain_from, chain, Ending, closing, behind, parts_from, parts, more_parts}
use Rattle.ui_parse.proofs.Outcomes.{good, bad, mono}
use Rattle.ui_parse.proofs.Alike.{Suffix, suffix_all, suffix_tail, suffix_length, Ends, Tails, two, end, one_tail, other_tail, MayBeLeft, Alike, longer, same_outcome, alike_bind, ends_bind}

pub record Steady {A : Type 0} (p : Reader A) : Type 0 where
  pub ends : (ws : List Word) → Ends ws (p ws)
  pub alike : (tails : Tails) (text : List Word) → Alike tails (p (text ++ one_tail tails)) (p (text ++ other_tail tails))

-- ---- the ways to build a reader

pub steady_pure : {A : Type 0} (a : A) → Steady (pure a)
steady_pure a = record { ends = λ ws. good (suffix_all ws); alike = λ tails text. same_outcome tails text (Some a) }

pub steady_refuse : {A : Type 0} → Steady (refuse {A = A})
steady_refuse {A = A} = record { ends = λ ws. bad (suffix_all ws); alike = λ tails text. same_outcome {A = A} tails text None }

pub steady_bind : {A B : Type 0} {p : Reader A} {f : A → Reader B} → Steady p → ((a : A) → Steady (f a)) → Steady (p >>= f)
steady_bind {p = p} {f = f} first on = record {
  ends = λ ws. ends_bind ws (p ws) f (first.ends ws) (λ a u. (on a).ends u);
  alike = λ tails text. alike_bind tails (p (text ++ one_tail tails)) (p (text ++ other_tail tails)) f f (first.alike tails text) (λ a u. (on a).ends u) (λ a left. (on a).alike tails left);
}

pub steady_if : {A : Type 0} (b : Bool) {p q : Reader A} → Steady p → Steady q → Steady (cond b p q)
steady_if true on off = on
steady_if false on off = off

pub steady_look : {A : Type 0} (b : Bool) {p q : Reader A} → Steady p → Steady q → Steady (λ ws. cond b (p ws) (q ws))
steady_look true on off = on
steady_look false on off = off

pub steady_within : {A : Type 0} (least budget : ℕ) {go : Reader A} → Steady go → Steady (within least budget go)
steady_within least budget go = steady_if (nat_le least budget) go steady_refuse

-- ---- the first word

module _ {A B : Type 0} (test : Word → Option B) (on : B → Reader A) (other : Reader A) (on_is : (b : B) → Steady (on b)) (other_is : Steady other) where
  taken_ends : (w : Word) (ws : List Word) (x : Option B) → Ends (w ∷ ws) (taken x on other (w ∷ ws))
  taken_ends w ws None = other_is.ends (w ∷ ws)
  taken_ends w ws (Some b) = mono ((on_is b).ends ws) (λ a r s. suffix_tail w ws r s) (λ r s. suffix_tail w ws r s)

  take_ends : (ws : List Word) → Ends ws (taken (first test ws) on other ws)
  take_ends [] = other_is.ends []
  take_ends (w ∷ ws) = taken_ends w ws (test w)

  taken_alike : (tails : Tails) (w : Word) (text : List Word) (x : Option B) → Alike tails (taken x on other ((w ∷ text) ++ one_tail tails)) (taken x on other ((w ∷ text) ++ other_tail tails))
  taken_alike tails w text None = other_is.alike tails (w ∷ text)
  taken_alike tails w text (Some b) = (on_is b).alike tails text

  -- the word that the first list goes on by is taken, or both stop before it
  end_alike : (w : Word) (r : List Word) (x : Option B) → Alike (end w r) (taken x on other (w ∷ r)) (other [])
  end_alike w r None = other_is.alike (end w r) []
  end_alike w r (Some b) = longer (end w r) r (on b r) (other []) ((on_is b).ends r) (λ left may. omega (arith, length-append left (w ∷ r)))

  take_alike : (tails : Tails) (text : List Word) → Alike tails (taken (first test (text ++ one_tail tails)) on other (text ++ one_tail tails)) (taken (first test (text ++ other_tail tails)) on other (text ++ other_tail tails))
  take_alike (two r r') [] = longer (two r r') r (taken (first test r) on other r) (taken (first test r') on other r') (take_ends r) left_more
    where
      left_more : (left : List Word) → MayBeLeft (two r r') left → length r < length (left ++ r)
      left_more [] may = absurd may
      left_more (w ∷ left) may = omega (arith, length-append (w ∷ left) r)
  take_alike (end w r) [] = end_alike w r (test w)
  take_alike tails (w ∷ text) = taken_alike tails w text (test w)

pub steady_take : {A B : Type 0} (test : Word → Option B) {on : B → Reader A} {other : Reader A} → ((b : B) → Steady (on b)) → Steady other → Steady (take_by test on other)
unfolding take_by
steady_take test {on = on} {other = other} on_is other_is = record { ends = take_ends test on other on_is other_is; alike = take_alike test on other on_is other_is }

pub steady_eat : (k : TokenKind) → Steady (eat k)
unfolding eat
steady_eat k = steady_take (marked k) (λ s. steady_pure (Some s)) (steady_pure None)

pub steady_expect : (k : TokenKind) → Steady (expect k)
unfolding expect
steady_expect k = steady_take (marked k) (λ s. steady_pure s) steady_refuse

pub steady_expect_name : Steady expect_name
unfolding expect_name
steady_expect_name = steady_take named (λ p. steady_pure p) steady_refuse

-- ---- lists: any fuel above the length serves

pub bind_same : {A B : Type 0} (ws : List Word) (o : Outcome A) (f g : A → Reader B) → Ends ws o → ((a : A) (r : List Word) → Suffix ws r → f a r ≡ g a r) → and_then o f ≡ and_then o g
bind_same ws (Ok p) f g e same = same p.0 p.1 e.holds
bind_same ws (Err r) f g e same = refl

pub cond_same : {A : Type 0} (b : Bool) (p p' q q' : Reader A) (ws : List Word) → p ws ≡ p' ws → q ws ≡ q' ws → cond b p q ws ≡ cond b p' q' ws
cond_same true p p' q q' ws on off = on
cond_same false p p' q q' ws on off = off

taken_same : {A B : Type 0} (x : Option B) (on on' : B → Reader A) (other other' : Reader A) (w : Word) (ws : List Word) → ((b : B) → on b ws ≡ on' b ws) → other (w ∷ ws) ≡ other' (w ∷ ws)
    → taken x on other (w ∷ ws) ≡ taken x on' other' (w ∷ ws)
taken_same None on on' other other' w ws same others = others
taken_same (Some b) on on' other other' w ws same others = same b

pub take_same : {A B : Type 0} (test : Word → Option B) (on on' : B → Reader A) (other other' : Reader A) (ws : List Word) → ((b : B) (rest : List Word) → length rest < length ws → on b rest ≡ on' b rest) → other ws ≡ other' ws
    → take_by test on other ws ≡ take_by test on' other' ws
unfolding take_by
take_same test on on' other other' [] same others = others
take_same test on on' other other' (w ∷ ws) same others = taken_same (test w) on on' other other' w ws (λ b. same b ws (omega arith)) others

pub steady_by_length : {A : Type 0} (f : ℕ → Reader A) → ((n : ℕ) → Steady (f n)) → ((n m : ℕ) (ws : List Word) → length ws < n → length ws < m → f n ws ≡ f m ws) → Steady (λ ws. f (suc (length ws)) ws)
steady_by_length f f_is fuel = record {
  ends = λ ws. (f_is (suc (length ws))).ends ws;
  alike = λ tails text.
      let n = suc (length (text ++ one_tail tails) + length (text ++ other_tail tails)) in
      subst (λ (o : Outcome _). Alike tails o (f (suc (length (text ++ other_tail tails))) (text ++ other_tail tails))) (fuel n (suc (length (text ++ one_tail tails))) (text ++ one_tail tails) (omega arith) (omega arith))
      (subst (λ (o : Outcome _). Alike tails (f n (text ++ one_tail tails)) o) (fuel n (suc (length (text ++ other_tail tails))) (text ++ other_tail tails) (omega arith) (omega arith)) ((f_is n).alike tails text));
}

module _ {S : Type 0} (separator : TokenKind) (step : S → Reader S) (step_is : (s : S) → Steady (step s)) where
  pub chain_fuel : (n m : ℕ) (s : S) (ws : List Word) → length ws < n → length ws < m → chain_from separator step n s ws ≡ chain_from separator step m s ws
  unfolding chain_from
  chain_fuel zero m s ws lt lt' = absurd (omega arith)
  chain_fuel (suc n) zero s ws lt lt' = absurd (omega arith)
  chain_fuel (suc n) (suc m) s ws lt lt' = take_same (marked separator) _ _ _ _ ws
      (λ b rest less. bind_same rest (step s rest) (chain_from separator step n) (chain_from separator step m) ((step_is s).ends rest)
      (λ s2 r sfx. chain_fuel n m s2 r (omega (arith, suffix_length rest r sfx)) (omega (arith, suffix_length rest r sfx))))
      refl

  chain_from_steady : (n : ℕ) (s : S) → Steady (chain_from separator step n s)
  unfolding chain_from
  chain_from_steady zero s = steady_refuse
  chain_from_steady (suc n) s = steady_take (marked separator) (λ _. steady_bind (step_is s) (λ s2. chain_from_steady n s2)) (steady_pure s)

  pub steady_chain : (s : S) → Steady (chain separator step s)
  unfolding chain
  steady_chain s = steady_by_length (λ n. chain_from separator step n s) (λ n. chain_from_steady n s) (λ n m ws. chain_fuel n m s ws)

module _ {S : Type 0} (separator close : TokenKind) (ending : Ending S) (step : S → Reader S) (step_is : (s : S) → Steady (step s)) where
  steady_closing : (s : S) → Steady (closing separator close ending step s)
  steady_closing s = steady_if (ending.may s) (steady_bind (steady_expect close) (λ _. steady_pure s)) steady_refuse

  steady_behind : (again : S → Reader S) → ((s : S) → Steady (again s)) → (s : S) → Steady (behind separator close ending step again s)
  steady_behind again again_is s = steady_if (ending.must s) (steady_bind (steady_eat separator) (λ _. steady_closing s)) (steady_take (marked separator) (λ _. again_is s) (steady_closing s))

  pub behind_same : (again again' : S → Reader S) (s : S) (ws : List Word) → ((rest : List Word) → length rest < length ws → again s rest ≡ again' s rest) → behind separator close ending step again s ws ≡ behind separator close ending step again' s ws
  behind_same again again' s ws same = cond_same (ending.must s) _ _ _ _ ws refl (take_same (marked separator) (λ _. again s) (λ _. again' s) (closing separator close ending step s) (closing separator close ending step s) ws (λ _. same) refl)

  pub parts_fuel : (n m : ℕ) (s : S) (ws : List Word) → length ws < n → length ws < m → parts_from separator close ending step n s ws ≡ parts_from separator close ending step m s ws
  unfolding parts_from
  parts_fuel zero m s ws lt lt' = absurd (omega arith)
  parts_fuel (suc n) zero s ws lt lt' = absurd (omega arith)
  parts_fuel (suc n) (suc m) s ws lt lt' =
      let go = bind_same ws (step s ws) (behind separator close ending step (parts_from separator close ending step n)) (behind separator close ending step (parts_from separator close ending step m)) ((step_is s).ends ws)
      (λ s2 r sfx. behind_same (parts_from separator close ending step n) (parts_from separator close ending step m) s2 r
      (λ rest less. parts_fuel n m s2 rest (omega (arith, suffix_length ws r sfx)) (omega (arith, suffix_length ws r sfx)))) in
      cond_same (ending.may s) _ _ _ _ ws (take_same (marked close) (λ _. pure s) (λ _. pure s) _ _ ws (λ _ rest _. refl) go) go

  parts_from_steady : (n : ℕ) (s : S) → Steady (parts_from separator close ending step n s)
  unfolding parts_from
  parts_from_steady zero s = steady_refuse
  parts_from_steady (suc n) s =
      let go = steady_bind (step_is s) (steady_behind (parts_from separator close ending step n) (parts_from_steady n)) in
      steady_if (ending.may s) (steady_take (marked close) (λ _. steady_pure s) go) go

  pub steady_parts : (s : S) → Steady (parts separator close ending step s)
  unfolding parts
  steady_parts s = steady_by_length (λ n. parts_from separator close ending step n s) (λ n. parts_from_steady n s) (λ n m ws. parts_fuel n m s ws)

  pub steady_more_parts : (s : S) → Steady (more_parts separator close ending step s)
  unfolding more_parts
  steady_more_parts s = steady_behind (parts separator close ending step) steady_parts s
