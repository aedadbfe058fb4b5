-- No spelling of a number begins another, and a reader tells one that is cut.
use Rattle.std.proofs.Common.{◌≡◌, ℕ, zero, suc, ◌+◌, ◌-◌, ◌*◌, ◌/◌, ◌^◌, ◌<◌, ◌≤◌, Bool, true, false, cond, ltb, eqb, List, [], ◌∷◌, ◌++◌, length, Result, Ok, Err, refl, sym, ap, ◌∙◌, arith, ◌⊎◌, inl, inr, ◌↔◌}
use Rattle.std.proofs.lemmas.Bool.{le-ltb, ltb-false}
use Rattle.std.proofs.lemmas.List.{length-append}
use Rattle.ui_frame.specs.Number.{IsCutUint, IsUint}
use Rattle.ui_frame.specs.Reading.{◌>>=◌, int_at, number_at, uint_at, unzigzag}
use Rattle.ui_frame.specs.Laws.{chosen, IsBytes}
use Rattle.ui_frame.specs.declared.number.NumFault.{NumFault}
use Rattle.ui_frame.specs.declared.number.NumFault.TheVariants.{Cut, LongNumber, BadBool}

heads : (a b : ℕ) (x y : List ℕ) → a ∷ x ≡ b ∷ y → (a ≡ b) × (x ≡ y)
heads a b x y e = (cc, cc)

pub begins : (a b x y : List ℕ) (m n : ℕ) → IsUint a m → IsUint b n → a ++ x ≡ b ++ y → (a ≡ b) × (m ≡ n)
begins [] b x y m n p q e = absurd p
begins (a ∷ cs) [] x y m n p q e = absurd q
begins (a ∷ []) (b ∷ []) x y m n p q e =
    let h = heads _ _ _ _ e in
    (ap (λ (z : ℕ). z ∷ []) h.0, p.1 ∙ h.0 ∙ sym q.1)
begins (a ∷ []) (b ∷ c ∷ bs) x y m n p q e = let h = heads _ _ _ _ e in let low = p.0 in let high = q.0 in absurd (omega arith)
begins (a ∷ c ∷ cs) (b ∷ []) x y m n p q e = let h = heads _ _ _ _ e in let high = p.0 in let low = q.0 in absurd (omega arith)
begins (a ∷ c ∷ cs) (b ∷ d ∷ bs) x y m n p q e =
    let h = heads _ _ _ _ e in
    let r = begins (c ∷ cs) (d ∷ bs) x y p.2 q.2 p.5 q.5 h.1 in
    let first = h.0 in let same = r.1 in let left = p.4 in let right = q.4 in
    (cc, omega arith)

-- ---- a spelling that is cut

-- the greatest number of so many groups after the first, of 64 bits in all
abbrev greatest : ℕ → ℕ
greatest zero = 1
greatest (suc f) = 128 * greatest f + 127

greatest_pos : (f : ℕ) → 1 ≤ greatest f
greatest_pos zero = omega arith
greatest_pos (suc f) = omega arith

longer : (b n high : ℕ) (gs : List ℕ) → 128 ≤ b → b < 256 → 0 < high → n + 128 ≡ b + 128 * high → IsUint gs high → IsUint (b ∷ gs) n
longer b n high [] le lt some e h = absurd h
longer b n high (c ∷ gs) le lt some e h = (le, lt, high, some, e, h)

record IsCutAt (limit : ℕ) (bytes : List ℕ) : Type 0 where
  b : ℕ
  more : List ℕ
  n : ℕ
  some : 0 < n
  bound : n ≤ limit
  spelled : IsUint (bytes ++ b ∷ more) n

bind_err : {A B F : Type 0} (r : Result A F) (f : A → Result B F) (d : F) → (r >>= f) ≡ Err d → (r ≡ Err d) ⊎ ((x : A) × (r ≡ Ok x) × (f x ≡ Err d))
bind_err (Ok x) f d e = inr (x, refl, e)
bind_err (Err c) f d e = inl cc

next_limit : (f b : ℕ) → 128 ≤ b → b < 256 → (greatest (suc f) - (b - 128)) / 128 ≡ greatest f
next_limit f b le lt = omega arith

no_fault : (b : Bool) (x : ℕ × ℕ) (d : NumFault) → (LongNumber ≡ d → ⊥) → cond b (Err LongNumber) (Ok x) ≡ Err d → ⊥
no_fault true x d ne e = ne cc
no_fault false x d ne e = absurd cc

-- where a number of several bytes fails otherwise than by its length, the bytes after the first do
fails_later : (limit b : ℕ) (bs : List ℕ) (d : NumFault) → (LongNumber ≡ d → ⊥) → number_at limit (b ∷ bs) ≡ Err d → (128 ≤ b) × (128 ≤ limit) × (number_at ((limit - (b - 128)) / 128) bs ≡ Err d)
fails_later limit b bs d ne e =
    let next : Result (ℕ × ℕ) NumFault = number_at ((limit - (b - 128)) / 128) bs >>= λ r. cond (eqb r.0 0) (Err LongNumber) (Ok ((b - 128) + 128 * r.0, r.1 + 1)) in
    elim (chosen (ltb b 128) (cond (ltb limit b) (Err LongNumber) (Ok (b, 1))) (cond (ltb limit 128) (Err LongNumber) next) (Err d) e) [
      | inl low ↦ absurd (no_fault (ltb limit b) (b, 1) d ne low.1)
      | inr high ↦ elim (chosen (ltb limit 128) (Err LongNumber) next (Err d) high.1) [
        | inl p ↦ absurd (ne (let e = p.1 in cc))
        | inr p ↦ elim (bind_err (number_at ((limit - (b - 128)) / 128) bs) (λ r. cond (eqb r.0 0) (Err LongNumber) (Ok ((b - 128) + 128 * r.0, r.1 + 1))) d p.1) [
          | inl q ↦ (ltb-false b 128 high.0, ltb-false limit 128 p.0, q)
          | inr q ↦ absurd (no_fault (eqb q.0.0 0) ((b - 128) + 128 * q.0.0, q.0.1 + 1) d ne q.2)
        ]
      ]
    ]

cut_number : (f : ℕ) (bytes : List ℕ) → IsBytes bytes → number_at (greatest f) bytes ≡ Err Cut → IsCutAt (greatest f) bytes
cut_number f [] fits e =
    let one : IsUint (1 ∷ []) 1 = (omega arith, refl) in
    record { b = 1; more = []; n = 1; some = omega arith; bound = greatest_pos f; spelled = one }
cut_number zero (b ∷ bs) fits e =
    let later = fails_later 1 b bs Cut (λ same. absurd cc) e in
    let room = later.1 in
    absurd (omega arith)
cut_number (suc f) (b ∷ bs) fits e =
    let later = fails_later (greatest (suc f)) b bs Cut (λ same. absurd cc) e in
    let high = later.0 in
    let byte = fits.0 in
    let rest = cut_number f bs fits.1 (rw (next_limit f b high byte) at later.2) in
    let some = rest.some in
    let bound = rest.bound in
    let n : ℕ = (b - 128) + 128 * rest.n in
    record {
      b = rest.b;
      more = rest.more;
      n = n;
      some = omega arith;
      bound = omega arith;
      spelled = longer b n rest.n (bs ++ rest.b ∷ rest.more) high byte some (omega arith) rest.spelled;
    }

pub never_bool : (limit : ℕ) (bytes : List ℕ) → number_at limit bytes ≡ Err BadBool → ⊥
never_bool limit [] e = absurd cc
never_bool limit (b ∷ bs) e =
    never_bool ((limit - (b - 128)) / 128) bs (fails_later limit b bs BadBool (λ same. absurd cc) e).2

pub uint-never_bool : (bytes : List ℕ) → uint_at bytes ≡ Err BadBool → ⊥
unfolding uint_at
uint-never_bool bytes e = never_bool (2 ^ 64 - 1) bytes e

pub cut-uint : (bytes : List ℕ) → IsBytes bytes → uint_at bytes ≡ Err Cut → IsCutUint bytes
unfolding uint_at
cut-uint bytes fits e =
    let c = cut_number 9 bytes fits e in
    (c.b, c.more, c.n, omega (arith, c.bound), c.spelled)

-- what follows the first byte of a spelling of several bytes
after : (b : ℕ) (gs : List ℕ) (n : ℕ) → 0 < length gs → IsUint (b ∷ gs) n → (128 ≤ b) × (b < 256) × (high : ℕ) × (0 < high) × (n + 128 ≡ b + 128 * high) × IsUint gs high
after b [] n some h = absurd (omega arith)
after b (c ∷ gs) n some h = h

is-cut : (f : ℕ) (bytes : List ℕ) (b : ℕ) (more : List ℕ) (n : ℕ) → n ≤ greatest f → IsUint (bytes ++ b ∷ more) n → number_at (greatest f) bytes ≡ Err Cut
is-cut f [] b more n le h = refl
is-cut zero (c ∷ cs) b more n le h =
    let a = after c (cs ++ b ∷ more) n (omega (arith, length-append cs (b ∷ more))) h in
    let byte = a.0 in
    let some = a.3 in
    let value = a.4 in
    absurd (omega arith)
is-cut (suc f) (c ∷ cs) b more n le h =
    let a = after c (cs ++ b ∷ more) n (omega (arith, length-append cs (b ∷ more))) h in
    let value = a.4 in
    let low : ltb c 128 ≡ false = le-ltb c 128 a.0 in
    let room : ltb (greatest (suc f)) 128 ≡ false = le-ltb (greatest (suc f)) 128 (let some = greatest_pos f in omega arith) in
    rw (low, room, next_limit f c a.0 a.1, is-cut f cs b more a.2 (omega arith) a.5) refl

-- a step that never fails leaves the faults
pub same_faults : {A B F : Type 0} (r : Result A F) (f : A → B) (d : F) → ((r >>= λ x. Ok (f x)) ≡ Err d) ↔ (r ≡ Err d)
same_faults (Ok x) f d = (λ e. absurd cc, λ e. absurd cc)
same_faults (Err c) f d = (λ e. cc, λ e. cc)

pub int-faults : (bytes : List ℕ) (d : NumFault) → (int_at bytes ≡ Err d) ↔ (uint_at bytes ≡ Err d)
unfolding int_at
int-faults bytes d = same_faults (uint_at bytes) (λ r. (unzigzag r.0, r.1)) d

pub uint-cut : (bytes : List ℕ) → IsCutUint bytes → uint_at bytes ≡ Err Cut
unfolding uint_at
uint-cut bytes (b, more, n, lt, h) = is-cut 9 bytes b more n (omega arith) h
