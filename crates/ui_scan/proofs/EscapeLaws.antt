-- How long escapes are.
use Rattle.std.proofs.Common.{ℕ, ◌+◌, ◌≤◌, cond, List, length, take, drop, arith}
use Rattle.std.specs.Prelude.{Option, Some, None, IfSome, nat_lt, ◌==◌, slice_index}
use Rattle.std.specs.Int.{is_in_range}
use Rattle.std.specs.List.{list_all}
use lib.Utf8.{scalar}
use Rattle.std.proofs.lemmas.List.{length-drop}
use Rattle.std.proofs.lemmas.Bool.{ltb-false}
use Rattle.ui_scan.specs.Digits.{is_digit_of, whole}
use Rattle.ui_scan.specs.Escape.{digits_at, byte_escape, char_escape, simple_escape, escape}
use Rattle.ui_scan.specs.declared.escape.Escape.{Escape}
use Rattle.ui_scan.specs.declared.escape.Escaped.TheVariants.{Byte, Char}
use Rattle.ui_scan.proofs.Choices.{some_chosen, some_then, some_mapped, at_some}

always : (P : Type 0) (o : Option ℕ) → P → IfSome o (λ v. P)
always P None p = tt
always P (Some v) p = p

-- the bytes have so many
digits_at_long : (base n : ℕ) (bytes : List ℕ) → IfSome (digits_at base n bytes) (λ v. n ≤ length bytes)
unfolding digits_at
digits_at_long base n bytes =
    some_chosen (λ v. n ≤ length bytes) (nat_lt (length bytes) n) None (cond (list_all (is_digit_of base) (take n bytes)) (whole base (take n bytes)) None)
    (λ short. tt)
    (λ long. always (n ≤ length bytes) (cond (list_all (is_digit_of base) (take n bytes)) (whole base (take n bytes)) None) (ltb-false (length bytes) n long))

-- an escape has two bytes or more, and the bytes have these
pub record FitsIn (bytes : List ℕ) (e : Escape) : Type 0 where
  pub long : 2 ≤ e.len
  pub within : e.len ≤ length bytes

byte_escape_fits : (base n before : ℕ) (bytes : List ℕ) → 1 ≤ n → 1 ≤ before → IfSome (byte_escape base n before bytes) (FitsIn bytes)
unfolding byte_escape
byte_escape_fits base n before bytes le le' =
    some_then (FitsIn bytes) (λ v. cond (nat_lt 255 v) None (Some (record { stands_for = Byte v; len = before + n }))) (digits_at base n (drop before bytes))
    (λ v digits. some_chosen (FitsIn bytes) (nat_lt 255 v) None (Some (record { stands_for = Byte v; len = before + n }))
    (λ past. tt)
    (λ small. record {
      long = omega arith;
      within = omega (arith, at_some (λ w. n ≤ length (drop before bytes)) (digits_at base n (drop before bytes)) v digits (digits_at_long base n (drop before bytes)), length-drop before bytes);
    }))

char_escape_fits : (n : ℕ) (bytes : List ℕ) → 1 ≤ n → IfSome (char_escape n bytes) (FitsIn bytes)
unfolding char_escape
char_escape_fits n bytes le =
    some_then (FitsIn bytes) (λ v. cond (scalar v) (Some (record { stands_for = Char v; len = 2 + n })) None) (digits_at 16 n (drop 2 bytes))
    (λ v digits. some_chosen (FitsIn bytes) (scalar v) (Some (record { stands_for = Char v; len = 2 + n })) None
    (λ valid. record {
      long = omega arith;
      within = omega (arith, at_some (λ w. n ≤ length (drop 2 bytes)) (digits_at 16 n (drop 2 bytes)) v digits (digits_at_long 16 n (drop 2 bytes)), length-drop 2 bytes);
    })
    (λ invalid. tt))

pub escape_fits : (quote : ℕ) (bytes : List ℕ) → IfSome (escape quote bytes) (FitsIn bytes)
unfolding escape
escape_fits quote bytes =
    let b = slice_index bytes 1 in
    some_chosen (FitsIn bytes) (nat_lt (length bytes) 2) None _ (λ short. tt) (λ long.
    let two : 2 ≤ length bytes = ltb-false (length bytes) 2 long in
    some_chosen (FitsIn bytes) (is_in_range 48 55 b) (byte_escape 8 3 1 bytes) _ (λ _. byte_escape_fits 8 3 1 bytes (omega arith) (omega arith)) (λ _.
    some_chosen (FitsIn bytes) (b == 120) (byte_escape 16 2 2 bytes) _ (λ _. byte_escape_fits 16 2 2 bytes (omega arith) (omega arith)) (λ _.
    some_chosen (FitsIn bytes) (b == 117) (char_escape 4 bytes) _ (λ _. char_escape_fits 4 bytes (omega arith)) (λ _.
    some_chosen (FitsIn bytes) (b == 85) (char_escape 8 bytes) _ (λ _. char_escape_fits 8 bytes (omega arith)) (λ _.
    some_mapped (FitsIn bytes) (λ c. record { stands_for = Char c; len = 2 }) (simple_escape quote b) (λ c _. record { long = omega arith; within = two }))))))
