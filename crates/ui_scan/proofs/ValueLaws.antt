-- The bytes of strings.
use Rattle.std.proofs.Common.{◌≡◌, ℕ, zero, suc, ◌+◌, ◌-◌, ◌<◌, ◌≤◌, cond, List, [], ◌∷◌, ◌++◌, length, drop, get_or, refl, sym, ap, ◌∙◌, arith, append_assoc, append-nil}
use Rattle.std.specs.Prelude.{Some, None}
use Rattle.std.proofs.lemmas.Bool.{eq-eqb, ne_eqb}
use Rattle.std.proofs.lemmas.List.{drop_more, drop-drop, length-drop, drop_all}
use Rattle.ui_scan.specs.Escape.{escape, bytes_of}
use Rattle.ui_scan.specs.Value.{unescaped, unescaped_from, after_escape}
use Rattle.ui_scan.specs.declared.escape.Escape.{Escape}
use Rattle.ui_scan.proofs.Choices.{at_some}
use Rattle.ui_scan.proofs.EscapeLaws.{FitsIn, escape_fits}

unescaped-passed : (k : ℕ) (bytes : List ℕ) → k ≤ length bytes → unescaped_from k bytes ≡ unescaped_from 0 (drop k bytes)
unescaped-passed zero bytes le = refl
unescaped-passed (suc k) [] le = absurd (omega arith)
unescaped-passed (suc k) (b ∷ bytes) le = unescaped-passed k bytes (omega arith)

plain : (b : ℕ) (bytes : List ℕ) → (b ≡ 92 → ⊥) → unescaped (b ∷ bytes) ≡ b ∷ unescaped bytes
unfolding unescaped
plain b bytes ne = ap (λ t. cond t (after_escape (escape 34 (b ∷ bytes)) (λ n. unescaped_from n bytes)) (b ∷ unescaped_from 0 bytes)) (ne_eqb b 92 ne)

by_escape : (b : ℕ) (bytes : List ℕ) → b ≡ 92 → unescaped (b ∷ bytes) ≡ after_escape (escape 34 (b ∷ bytes)) (λ n. unescaped_from n bytes)
unfolding unescaped
by_escape b bytes e = ap (λ t. cond t (after_escape (escape 34 (b ∷ bytes)) (λ n. unescaped_from n bytes)) (b ∷ unescaped_from 0 bytes)) (eq-eqb b 92 e)

escaped : (b : ℕ) (bytes : List ℕ) (e : Escape) → b ≡ 92 → escape 34 (b ∷ bytes) ≡ Some e
    → unescaped (b ∷ bytes) ≡ bytes_of e.stands_for ++ unescaped (drop e.len (b ∷ bytes))
unfolding unescaped
escaped b bytes e slash found =
    let fits = at_some (FitsIn (b ∷ bytes)) (escape 34 (b ∷ bytes)) e found (escape_fits 34 (b ∷ bytes)) in
    let long : 2 ≤ e.len = fits.long in
    let within : e.len ≤ suc (length bytes) = fits.within in
    let s : e.len ≡ suc (e.len - 1) = omega arith in
    by_escape b bytes slash ∙ ap (λ o. after_escape o (λ n. unescaped_from n bytes)) found
    ∙ ap (λ t. bytes_of e.stands_for ++ t) (unescaped-passed (e.len - 1) bytes (omega arith) ∙ ap (λ n. unescaped_from 0 (drop n (b ∷ bytes))) (sym s))

-- a loop that has come to some byte
module _ (bytes out : List ℕ) (at : ℕ) (within : at < length bytes) (so_far : out ++ unescaped (drop at bytes) ≡ unescaped bytes) where
  here : drop at bytes ≡ get_or bytes at 0 ∷ drop (at + 1) bytes
  here = drop_more bytes at 0 within

  pub one_byte : (get_or bytes at 0 ≡ 92 → ⊥) → (out ++ get_or bytes at 0 ∷ []) ++ unescaped (drop (at + 1) bytes) ≡ unescaped bytes
  one_byte ne =
      append_assoc out (get_or bytes at 0 ∷ []) (unescaped (drop (at + 1) bytes))
      ∙ ap (λ t. out ++ t) (sym (ap unescaped here ∙ plain (get_or bytes at 0) (drop (at + 1) bytes) ne)) ∙ so_far

  pub one_escape : (e : Escape) → get_or bytes at 0 ≡ 92 → escape 34 (drop at bytes) ≡ Some e
      → (out ++ bytes_of e.stands_for) ++ unescaped (drop (at + e.len) bytes) ≡ unescaped bytes
  one_escape e slash found =
      append_assoc out (bytes_of e.stands_for) (unescaped (drop (at + e.len) bytes))
      ∙ ap (λ t. out ++ t) (ap (λ t. bytes_of e.stands_for ++ unescaped t) (sym (drop-drop e.len at bytes) ∙ ap (drop e.len) here)
      ∙ sym (ap unescaped here ∙ escaped (get_or bytes at 0) (drop (at + 1) bytes) e slash (ap (escape 34) (sym here) ∙ found)))
      ∙ so_far

  pub no_escape : get_or bytes at 0 ≡ 92 → escape 34 (drop at bytes) ≡ None → out ≡ unescaped bytes
  no_escape slash none_ =
      sym (append-nil out)
      ∙ ap (λ t. out ++ t) (sym (ap unescaped here ∙ by_escape (get_or bytes at 0) (drop (at + 1) bytes) slash
      ∙ ap (λ o. after_escape o (λ n. unescaped_from n (drop (at + 1) bytes))) (ap (escape 34) (sym here) ∙ none_)))
      ∙ so_far

  pub escape_within : (e : Escape) → escape 34 (drop at bytes) ≡ Some e → (2 ≤ e.len) × (at + e.len ≤ length bytes)
  escape_within e found =
      let fits = at_some (FitsIn (drop at bytes)) (escape 34 (drop at bytes)) e found (escape_fits 34 (drop at bytes)) in
      (fits.long, omega (arith, fits.within, length-drop at bytes))

pub unescaped_done : (bytes out : List ℕ) (at : ℕ) → length bytes ≤ at → out ++ unescaped (drop at bytes) ≡ unescaped bytes → out ≡ unescaped bytes
unfolding unescaped
unescaped_done bytes out at le so_far = sym (ap (λ t. out ++ unescaped_from 0 t) (drop_all at bytes le) ∙ append-nil out) ∙ so_far
