-- An escape is told by its own bytes.
use Rattle.std.proofs.Common.{◌≡◌, ℕ, ◌+◌, ◌≤◌, Bool, true, false, cond, List, length, take, drop, get_or, refl, sym, ap, ◌∙◌, arith}
use Rattle.std.specs.Prelude.{Option, Some, None, IfSome, ◌==◌, nat_lt, option_map, option_and_then}
use Rattle.std.specs.Int.{is_in_range}
use Rattle.std.specs.List.{list_all}
use lib.Utf8.{scalar}
use Rattle.std.proofs.lemmas.Bool.{cond-false, le-ltb}
use Rattle.std.proofs.lemmas.List.{drop-take, get_or-take, length-drop}
use Rattle.ui_scan.specs.Digits.{is_digit_of, whole}
use Rattle.ui_scan.specs.Escape.{digits_at, byte_escape, char_escape, simple_escape, escape}
use Rattle.ui_scan.specs.declared.escape.Escape.{Escape}
use Rattle.ui_scan.specs.declared.escape.Escaped.TheVariants.{Byte, Char}
use Rattle.ui_scan.proofs.Choices.{some_chosen, some_then, at_some}
use Rattle.ui_scan.proofs.EscapeLaws.{FitsIn, escape_fits}

-- two texts that both begin with so many bytes
pub record Alike (xs ys : List ℕ) (n : ℕ) : Type 0 where
  pub same : take n xs ≡ take n ys
  pub left : n ≤ length xs
  pub right : n ≤ length ys

digits_alike : (base n before : ℕ) (xs ys : List ℕ) → Alike xs ys (before + n) → digits_at base n (drop before xs) ≡ digits_at base n (drop before ys)
unfolding digits_at
digits_alike base n before xs ys alike =
    let same : take n (drop before xs) ≡ take n (drop before ys) = sym (drop-take before n xs) ∙ ap (drop before) alike.same ∙ drop-take before n ys in
    cond-false _ _ _ (le-ltb (length (drop before xs)) n (omega (arith, alike.left, length-drop before xs)))
    ∙ ap (λ t. cond (list_all (is_digit_of base) t) (whole base t) None) same
    ∙ sym (cond-false _ _ _ (le-ltb (length (drop before ys)) n (omega (arith, alike.right, length-drop before ys))))

byte_escape_len : (base n before : ℕ) (bytes : List ℕ) → IfSome (byte_escape base n before bytes) (λ (e : Escape). e.len ≡ before + n)
unfolding byte_escape
byte_escape_len base n before bytes =
    some_then (λ (e : Escape). e.len ≡ before + n) (λ v. cond (nat_lt 255 v) None (Some (record { stands_for = Byte v; len = before + n }))) (digits_at base n (drop before bytes))
    (λ v _. some_chosen (λ (e : Escape). e.len ≡ before + n) (nat_lt 255 v) None (Some (record { stands_for = Byte v; len = before + n })) (λ _. tt) (λ _. refl))

char_escape_len : (n : ℕ) (bytes : List ℕ) → IfSome (char_escape n bytes) (λ (e : Escape). e.len ≡ 2 + n)
unfolding char_escape
char_escape_len n bytes =
    some_then (λ (e : Escape). e.len ≡ 2 + n) (λ v. cond (scalar v) (Some (record { stands_for = Char v; len = 2 + n })) None) (digits_at 16 n (drop 2 bytes))
    (λ v _. some_chosen (λ (e : Escape). e.len ≡ 2 + n) (scalar v) (Some (record { stands_for = Char v; len = 2 + n })) None (λ _. refl) (λ _. tt))

module _ (quote : ℕ) (xs ys : List ℕ) (e : Escape) (alike : Alike xs ys e.len) where
  alike_at : (n : ℕ) → e.len ≡ n → Alike xs ys n
  alike_at n is = record {
    same = ap (λ k. take k xs) (sym is) ∙ alike.same ∙ ap (λ k. take k ys) is;
    left = omega (arith, is, alike.left);
    right = omega (arith, is, alike.right);
  }

  byte_alike : (base n before : ℕ) → byte_escape base n before xs ≡ Some e → byte_escape base n before ys ≡ Some e
  unfolding byte_escape
  byte_alike base n before is =
      let len = at_some (λ (x : Escape). x.len ≡ before + n) (byte_escape base n before xs) e is (byte_escape_len base n before xs) in
      ap (option_and_then (λ v. cond (nat_lt 255 v) None (Some (record { stands_for = Byte v; len = before + n })))) (sym (digits_alike base n before xs ys (alike_at (before + n) len))) ∙ is

  char_alike : (n : ℕ) → char_escape n xs ≡ Some e → char_escape n ys ≡ Some e
  unfolding char_escape
  char_alike n is =
      let len = at_some (λ (x : Escape). x.len ≡ 2 + n) (char_escape n xs) e is (char_escape_len n xs) in
      ap (option_and_then (λ v. cond (scalar v) (Some (record { stands_for = Char v; len = 2 + n })) None)) (sym (digits_alike 16 n 2 xs ys (alike_at (2 + n) len))) ∙ is

  either_way : (b : Bool) (x y x' y' : Option Escape) → cond b x y ≡ Some e → (x ≡ Some e → x' ≡ Some e) → (y ≡ Some e → y' ≡ Some e) → cond b x' y' ≡ Some e
  either_way true x y x' y' is p q = p is
  either_way false x y x' y' is p q = q is

  pub escape_alike : escape quote xs ≡ Some e → escape quote ys ≡ Some e
  unfolding escape
  escape_alike is =
      let two : 2 ≤ e.len = (at_some (FitsIn xs) (escape quote xs) e is (escape_fits quote xs)).long in
      let b = get_or xs 1 0 in
      let second : get_or ys 1 0 ≡ b = sym (get_or-take e.len ys 1 0 (omega arith)) ∙ ap (λ t. get_or t 1 0) (sym alike.same) ∙ get_or-take e.len xs 1 0 (omega arith) in
      let by_second : ℕ → List ℕ → Option Escape = λ c bytes.
      cond (is_in_range 48 55 c) (byte_escape 8 3 1 bytes)
      (cond (c == 120) (byte_escape 16 2 2 bytes)
      (cond (c == 117) (char_escape 4 bytes)
      (cond (c == 85) (char_escape 8 bytes)
      (option_map (λ v. record { stands_for = Char v; len = 2 }) (simple_escape quote c))))) in
      let found : by_second b xs ≡ Some e = sym (cond-false (nat_lt (length xs) 2) None (by_second b xs) (le-ltb (length xs) 2 (omega (arith, alike.left, two)))) ∙ is in
      let there : by_second b ys ≡ Some e =
      either_way (is_in_range 48 55 b) _ _ _ _ found (λ i. byte_alike 8 3 1 i) (λ i.
      either_way (b == 120) _ _ _ _ i (λ j. byte_alike 16 2 2 j) (λ j.
      either_way (b == 117) _ _ _ _ j (λ k. char_alike 4 k) (λ k.
      either_way (b == 85) _ _ _ _ k (λ l. char_alike 8 l) (λ l. l)))) in
      cond-false (nat_lt (length ys) 2) None (by_second (get_or ys 1 0) ys) (le-ltb (length ys) 2 (omega (arith, alike.right, two)))
      ∙ ap (λ c. by_second c ys) second ∙ there
