-- The spelling of a number, a group at a time.
use Rattle.std.proofs.Common.{◌≡◌, ℕ, zero, suc, ◌+◌, ◌*◌, ◌/◌, ◌%◌, ◌^◌, ◌<◌, ◌≤◌, ◌-◌, Bool, true, false, cond, ltb, eqb, List, [], ◌∷◌, ◌++◌, refl, sym, ap, ◌∙◌, add-one, subst, drop, get_or, length, ◌⊎◌, Result, Ok, Err, arith, inl, inr}
use Rattle.std.specs.List.{AllByRecursion}
use Rattle.ui_frame.specs.declared.number.NumFault.{NumFault}
use Rattle.ui_frame.specs.declared.number.NumFault.TheVariants.{LongNumber, BadBool}
use Rattle.ui_frame.specs.Reading.{◌>>=◌, number_at, uint_at, int_at, truth_at, unzigzag}
use Rattle.std.proofs.lemmas.Bool.{cases_lt, le-ltb, lt-ltb, ltb-true, ltb-false, eqb-false, eqb-true, ne_eqb}
use Rattle.ui_frame.specs.Number.{groups, uint, int, truth, zigzag, IsUint}
use Rattle.std.specs.Prelude.{ℤ, pos, negsuc}

-- so many groups after the first are enough
abbrev pub Below : ℕ → ℕ → Type 0
Below zero n = n < 128
Below (suc f) n = Below f (n / 128)

groups_last : (f n : ℕ) → n < 128 → groups (suc f) n ≡ n ∷ []
unfolding groups
groups_last f n lt = rw (lt-ltb n 128 lt) refl

groups_next : (f n : ℕ) → 128 ≤ n → groups (suc f) n ≡ (128 + n % 128) ∷ groups f (n / 128)
unfolding groups
groups_next f n le = rw (le-ltb n 128 le) refl

Below-small : (f n : ℕ) → n < 128 → Below f n
Below-small zero n lt = lt
Below-small (suc f) n lt = Below-small f (n / 128) (omega arith)

groups_more : (f n : ℕ) → Below f n → groups (suc (suc f)) n ≡ groups (suc f) n
groups_more zero n below = groups_last 1 n below ∙ sym (groups_last 0 n below)
groups_more (suc f) n below =
    elim (cases_lt n 128) [
      | inl lt ↦ groups_last (suc (suc f)) n lt ∙ sym (groups_last (suc f) n lt)
      | inr le ↦ groups_next (suc (suc f)) n le ∙ ap (λ (gs : List ℕ). (128 + n % 128) ∷ gs) (groups_more f (n / 128) below) ∙ sym (groups_next (suc f) n le)
    ]

pub uint_last : (n : ℕ) → n < 128 → uint n ≡ n ∷ []
unfolding uint
uint_last n lt = groups_last 9 n lt

pub uint_more : (n : ℕ) → 128 ≤ n → n < 2 ^ 64 → uint n ≡ (128 + n % 128) ∷ uint (n / 128)
unfolding uint
uint_more n le lt =
    let below : Below 8 (n / 128) = omega arith in
    groups_next 9 n le ∙ ap (λ (gs : List ℕ). (128 + n % 128) ∷ gs) (sym (groups_more 8 (n / 128) below))

abbrev done : {A F : Type 0} → A → Result A F
done x = Ok x

pub ok_is : {A F : Type 0} (x y : A) → done {F = F} x ≡ done y → x ≡ y
ok_is x y e = cc

-- the value of a step that did not fail
pub bind_ok : {A B F : Type 0} (r : Result A F) (f : A → Result B F) (y : B) → (r >>= f) ≡ Ok y → (x : A) × (r ≡ Ok x) × (f x ≡ Ok y)
bind_ok (Ok x) f y e = (x, refl, e)
bind_ok (Err d) f y e = absurd cc

pub chosen : {A : Type 0} (b : Bool) (x y z : A) → cond b x y ≡ z → ((b ≡ true) × (x ≡ z)) ⊎ ((b ≡ false) × (y ≡ z))
chosen true x y z e = inl (refl, e)
chosen false x y z e = inr (refl, e)

abbrev pub IsBytes : List ℕ → Type 0
IsBytes bytes = AllByRecursion (λ b. b < 256) bytes

pub record TakesNumber (limit : ℕ) (bytes : List ℕ) (n len : ℕ) : Type 0 where
  pub parts : bytes ≡ uint n ++ drop len bytes
  pub len_is : length (uint n) ≡ len
  pub bound : n ≤ limit

takes_last : (limit b : ℕ) (bs : List ℕ) → b < 128 → b ≤ limit → TakesNumber limit (b ∷ bs) b 1
takes_last limit b bs lt le = record { parts = rw (uint_last b lt) refl; len_is = rw (uint_last b lt) refl; bound = le }

takes_more : (limit b : ℕ) (bs : List ℕ) (n len : ℕ) → limit < 2 ^ 64 → b < 256 → 128 ≤ b → 128 ≤ limit → 0 < n → TakesNumber ((limit - (b - 128)) / 128) bs n len → TakesNumber limit (b ∷ bs) ((b - 128) + 128 * n) (len + 1)
takes_more limit b bs n len fits byte high big some t =
    let m : ℕ = (b - 128) + 128 * n in
    let le : m ≤ limit = omega (arith, t.bound) in
    let e : uint m ≡ b ∷ uint n = uint_more m (omega arith) (omega arith) ∙ (let first : 128 + m % 128 ≡ b = omega arith in let rest : m / 128 ≡ n = omega arith in rw (first, rest) refl) in
    record { parts = rw (e, add-one) (ap (λ (l : List ℕ). b ∷ l) t.parts); len_is = rw (e, add-one) (ap suc t.len_is); bound = le }

pub number_takes : (limit : ℕ) (bytes : List ℕ) (x : ℕ × ℕ) → limit < 2 ^ 64 → IsBytes bytes → number_at limit bytes ≡ Ok x → TakesNumber limit bytes x.0 x.1
number_takes limit [] x fits bytes e = absurd cc
number_takes limit (b ∷ bs) x fits bytes e =
    let next : Result (ℕ × ℕ) NumFault = number_at ((limit - (b - 128)) / 128) bs >>= λ r. cond (eqb r.0 0) (Err LongNumber) (Ok ((b - 128) + 128 * r.0, r.1 + 1)) in
    elim (chosen (ltb b 128) (cond (ltb limit b) (Err LongNumber) (Ok (b, 1))) (cond (ltb limit 128) (Err LongNumber) next) (Ok x) e) [
      | inl low ↦ elim (chosen (ltb limit b) (Err LongNumber) (Ok (b, 1)) (Ok x) low.1) [
        | inl p ↦ absurd cc
        | inr p ↦ subst (λ (y : ℕ × ℕ). TakesNumber limit (b ∷ bs) y.0 y.1) (ok_is {F = NumFault} (b, 1) x p.1) (takes_last limit b bs (ltb-true b 128 low.0) (ltb-false limit b p.0))
      ]
      | inr high ↦ elim (chosen (ltb limit 128) (Err LongNumber) next (Ok x) high.1) [
        | inl p ↦ absurd cc
        | inr p ↦
            let a = bind_ok (number_at ((limit - (b - 128)) / 128) bs) (λ r. cond (eqb r.0 0) (Err LongNumber) (Ok ((b - 128) + 128 * r.0, r.1 + 1))) x p.1 in
            let t = number_takes ((limit - (b - 128)) / 128) bs a.0 (omega arith) bytes.1 a.1 in
            elim (chosen (eqb a.0.0 0) (Err LongNumber) (Ok ((b - 128) + 128 * a.0.0, a.0.1 + 1)) (Ok x) a.2) [
              | inl q ↦ absurd cc
              | inr q ↦ subst (λ (y : ℕ × ℕ). TakesNumber limit (b ∷ bs) y.0 y.1) (ok_is {F = NumFault} ((b - 128) + 128 * a.0.0, a.0.1 + 1) x q.1) (takes_more limit b bs a.0.0 a.0.1 fits bytes.0 (ltb-false b 128 high.0) (ltb-false limit 128 p.0) (let ne = eqb-false a.0.0 0 q.0 in omega arith) t)
            ]
      ]
    ]

number_last : (limit n : ℕ) (rest : List ℕ) → n < 128 → n ≤ limit → number_at limit (n ∷ rest) ≡ Ok (n, 1)
number_last limit n rest lt le = rw (lt-ltb n 128 lt, le-ltb limit n le) refl

number_next : (limit b : ℕ) (bs : List ℕ) (n len : ℕ) → 128 ≤ b → 128 ≤ limit → 0 < n → number_at ((limit - (b - 128)) / 128) bs ≡ Ok (n, len) → number_at limit (b ∷ bs) ≡ Ok ((b - 128) + 128 * n, len + 1)
number_next limit b bs n len high big some e =
    let ne : eqb n 0 ≡ false = ne_eqb n 0 (λ z. omega arith) in
    rw (le-ltb b 128 high, le-ltb limit 128 big, e, ne) refl

groups_again : (f limit n : ℕ) (rest : List ℕ) → Below f n → n ≤ limit → number_at limit (groups (suc f) n ++ rest) ≡ Ok (n, length (groups (suc f) n))
groups_again zero limit n rest below le = rw (groups_last 0 n below) (number_last limit n rest below le)
groups_again (suc f) limit n rest below le =
    elim (cases_lt n 128) [
      | inl lt ↦ rw (groups_last (suc f) n lt) (number_last limit n rest lt le)
      | inr ge ↦
          let b : ℕ = 128 + n % 128 in
          let again = groups_again f ((limit - (b - 128)) / 128) (n / 128) rest below (omega arith) in
          let next = number_next limit b (groups (suc f) (n / 128) ++ rest) (n / 128) (length (groups (suc f) (n / 128))) (omega arith) (omega arith) (omega arith) again in
          let value : (b - 128) + 128 * (n / 128) ≡ n = omega arith in
          rw (groups_next (suc f) n ge) (next ∙ rw (value, add-one) refl)
    ]

pub uint_takes : (bytes : List ℕ) (x : ℕ × ℕ) → IsBytes bytes → uint_at bytes ≡ Ok x → TakesNumber (2 ^ 64 - 1) bytes x.0 x.1
unfolding uint_at
uint_takes bytes x fits e = number_takes (2 ^ 64 - 1) bytes x (omega arith) fits e

pub uint_again : (n : ℕ) (rest : List ℕ) → n < 2 ^ 64 → uint_at (uint n ++ rest) ≡ Ok (n, length (uint n))
unfolding uint_at uint
uint_again n rest lt = groups_again 9 (2 ^ 64 - 1) n rest (omega arith) (omega arith)

-- ---- fields: their text stands at the front

pub record Takes (bytes text : List ℕ) (len : ℕ) : Type 0 where
  pub parts : bytes ≡ text ++ drop len bytes
  pub len_is : length text ≡ len

zigzag_back : (n : ℕ) → zigzag (unzigzag n) ≡ n
zigzag_back n = parity (eqb (n % 2) 0) refl
  where
    parity : (b : Bool) → eqb (n % 2) 0 ≡ b → zigzag (cond b (pos (n / 2)) (negsuc (n / 2))) ≡ n
    parity true e = let even = eqb-true (n % 2) 0 e in omega arith
    parity false e = let odd = eqb-false (n % 2) 0 e in omega arith

zigzag_again : (z : ℤ) → unzigzag (zigzag z) ≡ z
zigzag_again (pos n) =
    let even : (2 * n) % 2 ≡ 0 = omega arith in
    let half : (2 * n) / 2 ≡ n = omega arith in
    rw (even, half) refl
zigzag_again (negsuc n) =
    let odd : (2 * n + 1) % 2 ≡ 1 = omega arith in
    let half : (2 * n + 1) / 2 ≡ n = omega arith in
    rw (odd, half) refl

pub int_takes : (bytes : List ℕ) (x : ℤ × ℕ) → IsBytes bytes → int_at bytes ≡ Ok x → Takes bytes (int x.0) x.1 × (zigzag x.0 < 2 ^ 64)
unfolding int_at
int_takes bytes x fits e =
    let a = bind_ok (uint_at bytes) (λ r. Ok (unzigzag r.0, r.1)) x e in
    let t = uint_takes bytes a.0 fits a.1 in
    subst (λ (y : ℤ × ℕ). Takes bytes (int y.0) y.1 × (zigzag y.0 < 2 ^ 64)) (ok_is {F = NumFault} (unzigzag a.0.0, a.0.1) x a.2) (rw zigzag_back (record { parts = t.parts; len_is = t.len_is }, omega (arith, t.bound)))

pub int_again : (z : ℤ) (rest : List ℕ) → zigzag z < 2 ^ 64 → int_at (int z ++ rest) ≡ Ok (z, length (int z))
unfolding int_at
int_again z rest lt = rw (uint_again (zigzag z) rest lt, zigzag_again z) refl

truth_takes_at : (b : ℕ) (bs : List ℕ) (x : Bool × ℕ) (p q : Bool) → eqb b 0 ≡ p → eqb b 1 ≡ q → cond p (Ok (false, 1)) (cond q (Ok (true, 1)) (Err BadBool)) ≡ Ok x → Takes (b ∷ bs) (truth x.0) x.1
truth_takes_at b bs x true q e0 e1 e = subst (λ (y : Bool × ℕ). Takes (b ∷ bs) (truth y.0) y.1) (ok_is {F = NumFault} (false, 1) x e) (record { parts = rw (eqb-true b 0 e0) refl; len_is = refl })
truth_takes_at b bs x false true e0 e1 e = subst (λ (y : Bool × ℕ). Takes (b ∷ bs) (truth y.0) y.1) (ok_is {F = NumFault} (true, 1) x e) (record { parts = rw (eqb-true b 1 e1) refl; len_is = refl })
truth_takes_at b bs x false false e0 e1 e = absurd cc

pub truth_takes : (bytes : List ℕ) (x : Bool × ℕ) → truth_at bytes ≡ Ok x → Takes bytes (truth x.0) x.1
unfolding truth_at
truth_takes [] x e = absurd cc
truth_takes (b ∷ bs) x e = truth_takes_at b bs x (eqb b 0) (eqb b 1) refl refl e

pub truth_again : (b : Bool) (rest : List ℕ) → truth_at (truth b ++ rest) ≡ Ok (b, length (truth b))
unfolding truth_at
truth_again true rest = refl
truth_again false rest = refl

pub bytes_after : (xs ys : List ℕ) → IsBytes (xs ++ ys) → IsBytes ys
bytes_after [] ys h = h
bytes_after (x ∷ xs) ys h = bytes_after xs ys h.1

pub bytes_by_index : (bytes : List ℕ) → ((i : ℕ) → get_or bytes i 0 < 256) → IsBytes bytes
bytes_by_index [] h = tt
bytes_by_index (b ∷ bs) h = (h 0, bytes_by_index bs (λ i. h (suc i)))

-- ---- the grammar by cases has the one form, and no other

is_more : (b n high : ℕ) (gs : List ℕ) → 128 ≤ b → b < 256 → 0 < high → n + 128 ≡ b + 128 * high → IsUint gs high → IsUint (b ∷ gs) n
is_more b n high [] le lt some e h = absurd h
is_more b n high (c ∷ gs) le lt some e h = (le, lt, high, some, e, h)

groups_is : (f n : ℕ) → Below f n → IsUint (groups (suc f) n) n
groups_is zero n below = rw (groups_last 0 n below) (below, refl)
groups_is (suc f) n below =
    elim (cases_lt n 128) [
      | inl lt ↦ rw (groups_last (suc f) n lt) (lt, refl)
      | inr le ↦ rw (groups_next (suc f) n le) (is_more (128 + n % 128) n (n / 128) (groups (suc f) (n / 128)) (omega arith) (omega arith) (omega arith) (omega arith) (groups_is f (n / 128) below))
    ]

-- the spelling is in the grammar
pub uint_is : (n : ℕ) → n < 2 ^ 64 → IsUint (uint n) n
unfolding uint
uint_is n lt = groups_is 9 n (omega arith)

-- and what is in the grammar is the spelling
pub is_uint : (bytes : List ℕ) (n : ℕ) → IsUint bytes n → n < 2 ^ 64 → bytes ≡ uint n
is_uint [] n h lt = absurd h
is_uint (b ∷ []) n h lt = ap (λ (x : ℕ). x ∷ []) (sym h.1) ∙ sym (uint_last n (omega (arith, h.0, h.1)))
is_uint (b ∷ c ∷ bs) n h lt =
    let le = h.0 in let byte = h.1 in let some = h.3 in let e = h.4 in
    let high : ℕ = h.2 in
    let first : 128 + n % 128 ≡ b = omega arith in
    let rest : n / 128 ≡ high = omega arith in
    sym (uint_more n (omega arith) lt ∙ rw (first, rest) (ap (λ (gs : List ℕ). b ∷ gs) (sym (is_uint (c ∷ bs) high h.5 (omega arith)))))
