-- Where literals end.
use Rattle.std.proofs.Common.{◌≡◌, ℕ, zero, suc, ◌+◌, ◌-◌, ◌<◌, ◌≤◌, Bool, true, false, cond, List, [], ◌∷◌, length, drop, get_or, refl, sym, ap, ◌∙◌, arith, add_assoc, subst}
use Rattle.std.specs.Prelude.{Option, Some, None, IfSome, ◌==◌, slice_index, option_map}
use Rattle.std.proofs.lemmas.Bool.{eq-eqb, ne_eqb}
use Rattle.std.proofs.lemmas.List.{drop_more, drop-drop, length-drop}
use Rattle.ui_scan.specs.Escape.{escape}
use Rattle.ui_scan.specs.Literal.{behind, item_len, after_item, body_from, body, IsBodyIn}
use Rattle.ui_scan.specs.declared.escape.Escape.{Escape}
use Rattle.ui_scan.specs.declared.literal.Body.{Body}
use Rattle.ui_scan.specs.declared.literal.Body.TheVariants.{Closed, Newline, BadEscape, Open}
use Rattle.ui_scan.proofs.Choices.{some_chosen, some_mapped, at_some}
use Rattle.ui_scan.proofs.EscapeLaws.{FitsIn, escape_fits}

behind-behind : (m n : ℕ) (b : Body) → behind m (behind n b) ≡ behind (m + n) b
behind-behind m n (Closed len) = ap Closed (sym (add_assoc m n len))
behind-behind m n Newline = refl
behind-behind m n (BadEscape at) = ap BadEscape (sym (add_assoc m n at))
behind-behind m n Open = refl

pub behind-zero : (b : Body) → behind 0 b ≡ b
behind-zero (Closed len) = ap Closed (omega arith)
behind-zero Newline = refl
behind-zero (BadEscape at) = ap BadEscape (omega arith)
behind-zero Open = refl

-- an item has a byte or more, and the bytes have these
pub record IsItemLen (bytes : List ℕ) (n : ℕ) : Type 0 where
  pub some_bytes : 1 ≤ n
  pub within : n ≤ length bytes

pub item_len_fits : (quote : ℕ) (bytes : List ℕ) → 1 ≤ length bytes → IfSome (item_len quote bytes) (IsItemLen bytes)
unfolding item_len
item_len_fits quote bytes le =
    some_chosen (IsItemLen bytes) (slice_index bytes 0 == 92) (option_map (λ (e : Escape). e.len) (escape quote bytes)) (Some 1)
    (λ _. some_mapped (IsItemLen bytes) (λ (e : Escape). e.len) (escape quote bytes)
    (λ e found. let fits = at_some (FitsIn bytes) (escape quote bytes) e found (escape_fits quote bytes) in
    record { some_bytes = omega (arith, fits.long); within = fits.within }))
    (λ _. record { some_bytes = omega arith; within = le })

-- what is passed over is counted
body-passed : (quote k : ℕ) (bytes : List ℕ) → k ≤ length bytes → body_from quote k bytes ≡ behind k (body_from quote 0 (drop k bytes))
body-passed quote zero bytes le = sym (behind-zero (body_from quote 0 bytes))
body-passed quote (suc k) [] le = absurd (omega arith)
body-passed quote (suc k) (b ∷ bytes) le =
    ap (behind 1) (body-passed quote k bytes (omega arith)) ∙ behind-behind 1 k (body_from quote 0 (drop k bytes))
    ∙ ap (λ n. behind n (body_from quote 0 (drop k bytes))) (let e : 1 + k ≡ suc k = omega arith in e)

-- a body is within its bytes
behind_in : (m n : ℕ) (b : Body) → IsBodyIn n b → IsBodyIn (m + n) (behind m b)
behind_in m n (Closed len) p = (omega arith, omega arith)
behind_in m n Newline p = tt
behind_in m n (BadEscape at) p = omega arith
behind_in m n Open p = tt

either : {X : Type 0} (P : X → Type 0) (b : Bool) (x y : X) → P x → P y → P (cond b x y)
either P true x y p q = p
either P false x y p q = q

after_item_in : (n : ℕ) (o : Option ℕ) (next : ℕ → Body) → ((k : ℕ) → IsBodyIn n (next k)) → IsBodyIn (1 + n) (after_item o next)
after_item_in n None next p = omega arith
after_item_in n (Some k) next p = behind_in 1 n (next (k - 1)) (p (k - 1))

one_more : (bytes : List ℕ) (b : Body) → IsBodyIn (1 + length bytes) b → IsBodyIn (suc (length bytes)) b
one_more bytes b p = subst (λ n. IsBodyIn n b) (let e : 1 + length bytes ≡ suc (length bytes) = omega arith in e) p

body_from_in : (quote k : ℕ) (bytes : List ℕ) → IsBodyIn (length bytes) (body_from quote k bytes)
body_from_in quote k [] = tt
body_from_in quote (suc k) (b ∷ bytes) = one_more bytes (behind 1 (body_from quote k bytes)) (behind_in 1 (length bytes) (body_from quote k bytes) (body_from_in quote k bytes))
body_from_in quote zero (b ∷ bytes) =
    either (IsBodyIn (suc (length bytes))) (b == quote) (Closed 1) _ (omega arith, omega arith)
    (either (IsBodyIn (suc (length bytes))) (b == 10) Newline _ tt
    (one_more bytes _ (after_item_in (length bytes) (item_len quote (b ∷ bytes)) (λ n. body_from quote n bytes) (λ k. body_from_in quote k bytes))))

pub body_in : (quote : ℕ) (bytes : List ℕ) → IsBodyIn (length bytes) (body quote bytes)
unfolding body
body_in quote bytes = body_from_in quote 0 bytes

-- the four ways on
pub body_closed : (quote b : ℕ) (bytes : List ℕ) → b ≡ quote → body quote (b ∷ bytes) ≡ Closed 1
unfolding body
body_closed quote b bytes e =
    ap (λ t. cond t (Closed 1) (cond (b == 10) Newline (after_item (item_len quote (b ∷ bytes)) (λ n. body_from quote n bytes)))) (eq-eqb b quote e)

pub body_newline : (quote b : ℕ) (bytes : List ℕ) → (b ≡ quote → ⊥) → b ≡ 10 → body quote (b ∷ bytes) ≡ Newline
unfolding body
body_newline quote b bytes ne e =
    ap (λ t. cond t (Closed 1) (cond (b == 10) Newline (after_item (item_len quote (b ∷ bytes)) (λ n. body_from quote n bytes)))) (ne_eqb b quote ne)
    ∙ ap (λ t. cond t Newline (after_item (item_len quote (b ∷ bytes)) (λ n. body_from quote n bytes))) (eq-eqb b 10 e)

body_by_item : (quote b : ℕ) (bytes : List ℕ) → (b ≡ quote → ⊥) → (b ≡ 10 → ⊥)
    → body quote (b ∷ bytes) ≡ after_item (item_len quote (b ∷ bytes)) (λ n. body_from quote n bytes)
unfolding body
body_by_item quote b bytes ne ne' =
    ap (λ t. cond t (Closed 1) (cond (b == 10) Newline (after_item (item_len quote (b ∷ bytes)) (λ n. body_from quote n bytes)))) (ne_eqb b quote ne)
    ∙ ap (λ t. cond t Newline (after_item (item_len quote (b ∷ bytes)) (λ n. body_from quote n bytes))) (ne_eqb b 10 ne')

pub body_bad : (quote b : ℕ) (bytes : List ℕ) → (b ≡ quote → ⊥) → (b ≡ 10 → ⊥) → item_len quote (b ∷ bytes) ≡ None → body quote (b ∷ bytes) ≡ BadEscape 0
body_bad quote b bytes ne ne' bad = body_by_item quote b bytes ne ne' ∙ ap (λ o. after_item o (λ n. body_from quote n bytes)) bad

pub body_more : (quote b n : ℕ) (bytes : List ℕ) → (b ≡ quote → ⊥) → (b ≡ 10 → ⊥) → item_len quote (b ∷ bytes) ≡ Some n
    → body quote (b ∷ bytes) ≡ behind n (body quote (drop n (b ∷ bytes)))
unfolding body
body_more quote b n bytes ne ne' item =
    let fits = at_some (IsItemLen (b ∷ bytes)) (item_len quote (b ∷ bytes)) n item (item_len_fits quote (b ∷ bytes) (omega arith)) in
    let one : 1 ≤ n = fits.some_bytes in
    let within : n ≤ suc (length bytes) = fits.within in
    let e : n ≡ suc (n - 1) = omega arith in
    let f : 1 + (n - 1) ≡ n = omega arith in
    body_by_item quote b bytes ne ne' ∙ ap (λ o. after_item o (λ k. body_from quote k bytes)) item
    ∙ ap (behind 1) (body-passed quote (n - 1) bytes (omega arith))
    ∙ behind-behind 1 (n - 1) (body_from quote 0 (drop (n - 1) bytes))
    ∙ ap (λ k. behind k (body_from quote 0 (drop (n - 1) bytes))) f
    ∙ ap (λ k. behind n (body_from quote 0 (drop k (b ∷ bytes)))) (sym e)

pub body_open : (quote : ℕ) (bytes : List ℕ) → length bytes ≡ 0 → body quote bytes ≡ Open
unfolding body
body_open quote [] empty = refl
body_open quote (b ∷ bytes) empty = absurd (omega arith)

-- the same in a loop that has come to some byte
module _ (quote : ℕ) (bytes : List ℕ) (at : ℕ) (within : at < length bytes) where
  here : drop at bytes ≡ get_or bytes at 0 ∷ drop (at + 1) bytes
  here = drop_more bytes at 0 within

  pub loop_closed : get_or bytes at 0 ≡ quote → behind at (body quote (drop at bytes)) ≡ Closed (at + 1)
  loop_closed e = ap (λ t. behind at (body quote t)) here ∙ ap (behind at) (body_closed quote (get_or bytes at 0) (drop (at + 1) bytes) e)

  pub loop_newline : (get_or bytes at 0 ≡ quote → ⊥) → get_or bytes at 0 ≡ 10 → behind at (body quote (drop at bytes)) ≡ Newline
  loop_newline ne e = ap (λ t. behind at (body quote t)) here ∙ ap (behind at) (body_newline quote (get_or bytes at 0) (drop (at + 1) bytes) ne e)

  pub loop_bad : (get_or bytes at 0 ≡ quote → ⊥) → (get_or bytes at 0 ≡ 10 → ⊥) → item_len quote (drop at bytes) ≡ None
      → behind at (body quote (drop at bytes)) ≡ BadEscape at
  loop_bad ne ne' bad =
      ap (λ t. behind at (body quote t)) here
      ∙ ap (behind at) (body_bad quote (get_or bytes at 0) (drop (at + 1) bytes) ne ne' (ap (item_len quote) (sym here) ∙ bad))
      ∙ ap BadEscape (omega arith)

  pub loop_more : (n : ℕ) → (get_or bytes at 0 ≡ quote → ⊥) → (get_or bytes at 0 ≡ 10 → ⊥) → item_len quote (drop at bytes) ≡ Some n
      → behind (at + n) (body quote (drop (at + n) bytes)) ≡ behind at (body quote (drop at bytes))
  loop_more n ne ne' item =
      ap (λ t. behind (at + n) (body quote t)) (sym (drop-drop n at bytes))
      ∙ sym (behind-behind at n (body quote (drop n (drop at bytes))))
      ∙ ap (λ t. behind at (behind n (body quote (drop n t)))) here
      ∙ sym (ap (behind at) (body_more quote (get_or bytes at 0) n (drop (at + 1) bytes) ne ne' (ap (item_len quote) (sym here) ∙ item)))
      ∙ sym (ap (λ t. behind at (body quote t)) here)

  pub loop_item : (n : ℕ) → item_len quote (drop at bytes) ≡ Some n → (1 ≤ n) × (at + n ≤ length bytes)
  loop_item n item =
      let fits = at_some (IsItemLen (drop at bytes)) (item_len quote (drop at bytes)) n item
      (item_len_fits quote (drop at bytes) (omega (arith, length-drop at bytes))) in
      (fits.some_bytes, omega (arith, fits.within, length-drop at bytes))
