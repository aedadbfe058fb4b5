-- Sources that aren't too long, and their tokens.
use Rattle.std.proofs.Common.{◌≡◌, ℕ, ◌+◌, ◌*◌, ◌^◌, ◌<◌, ◌≤◌, suc, Bool, true, false, List, [], ◌∷◌, ◌++◌, map, get_or, length, Option, Some, None, Result, Ok, Err, refl, sym, ap, ◌∙◌, cond, arith, rules, tests, length-append}
use Rattle.std.proofs.Math.ListN.{get_or-map}
use Rattle.std.proofs.lemmas.List.{length-map}
use Rattle.ui_scan.specs.Scan.{tokens_of, due_after}
use Rattle.ui_scan.specs.Source.{mark_len}
use Rattle.ui_scan.specs.Tokens.{Tokens, AreWords, with_semicolons, semicolon_before, ends_line, place_at}
use Rattle.ui_scan.specs.declared.place.Place.{Place}
use Rattle.ui_scan.specs.declared.kind.Token.{Token}
use Rattle.ui_scan.specs.declared.kind.ScanFault.{ScanFault}
use Rattle.ui_base.specs.declared.fault.Fault.{Fault}
use Rattle.ui_base.specs.declared.fault.FaultKind.TheVariants as kind
use Rattle.ui_sources.specs.Choosing.{AreMeasured}
use Rattle.ui_sources.specs.Sources.{SourceFile, bytes_of, fault_in, front, is_long, measured, scanned, tokens_in}
use Rattle.ui_base.specs.Steps.{each}
use Rattle.ui_base.proofs.StepLemmas.{each_item, each_length}

-- ---- their sizes

short-from : (b : Bool) (f : Fault) (s t : SourceFile) → cond b (Err f) (Ok s) ≡ Ok t → b ≡ false
short-from true f s t e = absurd cc
short-from false f s t e = refl

is_short : (s t : SourceFile) → measured s ≡ Ok t → is_long s.1 ≡ false
is_short s t e = short-from (is_long s.1) (fault_in kind.SourceTooLong s.0 front) s t e

-- a source of those that are measured
pub item_short : {X : Type 0} (f : X → SourceFile) (xs : List X) (i : ℕ) (x : X) → AreMeasured (map f xs) → i < length xs → x ≡ get_or xs i x → is_long (f x).1 ≡ false
item_short f xs i x e h is = is_short (f x) _ (each_item f measured xs (map f xs) i x (f x) e h is)

short_bytes : (s : SourceFile) → is_long s.1 ≡ false → length (bytes_of s) ≤ 1048576
short_bytes (name, None) h = absurd cc
short_bytes (name, Some bytes) h = search (rules, tests)

-- ---- a source's tokens

scanned-ok : (s : SourceFile) (r : Result (List Token) ScanFault) (ts : List Token) → scanned s r ≡ Ok ts → r ≡ Ok ts
scanned-ok s (Ok us) ts e = cc
scanned-ok s (Err f) ts e = absurd cc

tokens-from : (s : SourceFile) (ts : List Token) → tokens_in s ≡ Ok ts → tokens_of (bytes_of s) ≡ Ok ts
tokens-from s ts e = scanned-ok s (tokens_of (bytes_of s)) ts e

-- ---- their number

words_fit : (bytes : List ℕ) (at : ℕ) (ts : List Token) → AreWords bytes at ts → length ts + at ≤ length bytes + 1
words_fit bytes at [] h = absurd h
words_fit bytes at (t ∷ []) h = omega (arith, h.0.ascends, h.0.within)
words_fit bytes at (t ∷ (u ∷ ts)) h = omega (arith, h.0.ascends, h.1.some_bytes, words_fit bytes t.end (u ∷ ts) h.2)

one_semicolon : (b : Bool) (due : Option Place) → length (semicolon_before b due) ≤ 1
one_semicolon true None = omega arith
one_semicolon true (Some p) = omega arith
one_semicolon false due = omega arith

twice : (bytes : List ℕ) (due : Option Place) (at : ℕ) (ts : List Token) → length (with_semicolons bytes due at ts) ≤ 2 * length ts
twice bytes due at [] = omega arith
twice bytes due at (t ∷ ts) =
    let before = semicolon_before (ends_line bytes at t) due in
    let rest = with_semicolons bytes (due_after t.kind (place_at bytes t.end)) t.end ts in
    let l : length (before ++ (t ∷ rest)) ≡ length before + suc (length rest) = length-append before (t ∷ rest) in
    omega (arith, l, one_semicolon (ends_line bytes at t) due, twice bytes (due_after t.kind (place_at bytes t.end)) t.end ts)

few_tokens : (bytes : List ℕ) (ts : List Token) → Tokens bytes ts → length ts ≤ 2 * length bytes + 2
few_tokens bytes ts h =
    let w = h.tokens.words in
    omega (arith, ap length h.tokens.tokens, words_fit bytes (mark_len bytes) w h.tokens.stand, twice bytes None (mark_len bytes) w)

pub has_room : (s : SourceFile) (bytes : List ℕ) (ts : List Token) → is_long s.1 ≡ false → bytes ≡ bytes_of s → Tokens bytes ts → length ts < 2 ^ 28
has_room s bytes ts h e t = omega (arith, few_tokens bytes ts t, short_bytes s h, ap length e)

-- ---- a list of sources

pub same_count : {X Y A B E : Type 0} (f : X → A) (g : Y → B) (step : A → Result B E) (xs : List X) (ys : List Y) → each step (map f xs) ≡ Ok (map g ys) → length ys ≡ length xs
same_count f g step xs ys e = sym (length-map ys g) ∙ each_length step (map f xs) (map g ys) e ∙ length-map xs f

pub item_tokens : {X Y : Type 0} (f : X → SourceFile) (g : Y → List Token) (xs : List X) (ys : List Y) (i : ℕ) (x : X) (y : Y) → each tokens_in (map f xs) ≡ Ok (map g ys) → i < length xs → x ≡ get_or xs i x → y ≡ get_or ys i y → tokens_of (bytes_of (f x)) ≡ Ok (g y)
item_tokens f g xs ys i x y e h is at =
    tokens-from (f x) (g y)
    (each_item f tokens_in xs (map g ys) i x (g y) e h is ∙ ap Ok (get_or-map g ys i y) ∙ ap (λ z. Ok (g z)) (sym at))
