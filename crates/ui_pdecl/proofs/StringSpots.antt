-- No two strings of a file stand at one line and column.
use Rattle.std.proofs.Common.{◌≡◌, ℕ, ◌+◌, ◌-◌, ◌<◌, ◌≤◌, Bool, true, false, ◌&&◌, cond, List, [], ◌∷◌, ◌++◌, length, take, drop, Option, Some, None, refl, sym, ap, subst, ◌∙◌, arith, length-drop}
use Rattle.std.specs.Prelude.{◌==◌}
use Rattle.std.specs.List.{fold}
use Rattle.std.proofs.lemmas.Bool.{eqb-true, eq-eqb}
use Rattle.std.proofs.lemmas.List.{length-take-le}
use Rattle.std.proofs.lemmas.List.Sums.{fold-append}
use Rattle.std.proofs.Math.Seq.{take-add}
use Rattle.ui_base.specs.declared.value.Spot.{Spot}
use Rattle.ui_scan.specs.declared.kind.Token.{Token}
use Rattle.ui_scan.specs.declared.kind.TokenKind.{TokenKind}
use Rattle.ui_scan.specs.declared.kind.TokenKind.TheVariants.{Str, End}
use Rattle.ui_scan.specs.declared.place.Place.{Place}
use Rattle.ui_scan.specs.Scan.{past, place_after, origin, due_after}
use Rattle.ui_scan.specs.Tokens.{place_at, AreWords, ends_line, semicolon_before, with_semicolons, Tokens}
use Rattle.ui_parse.specs.Kind.{is_kind}
use Rattle.ui_parse.proofs.SameKinds.{same_kind, kind_is}
use Rattle.ui_pdecl.specs.FileResult.{is_string_at, string_at}

-- ---- places behind others

-- by line, then by column
record Earlier (p q : Place) : Type 0 where
  line : p.line ≤ q.line
  col : p.line ≡ q.line → p.col < q.col

later : (p q r : Place) → Earlier p q → Earlier q r → Earlier p r
later p q r a b =
    let up : p.line ≤ q.line = a.line in
    let on : q.line ≤ r.line = b.line in
    record {
      line = omega arith;
      col = λ e.
          let first : p.line ≡ q.line = omega (arith, e, up, on) in
          let second : q.line ≡ r.line = omega (arith, e, up, on) in
          let c : p.col < q.col = a.col first in
          let d : q.col < r.col = b.col second in
          omega (arith, c, d);
    }

by_feed : (p : Place) (c : Bool) → Earlier p (cond c (record { at = p.at + 1; line = p.line + 1; col = 1 }) (record { at = p.at + 1; line = p.line; col = p.col + 1 }))
by_feed p true = record { line = omega arith; col = λ e. absurd (omega (arith, e)) }
by_feed p false = record { line = omega arith; col = λ e. omega arith }

past_later : (p : Place) (b : ℕ) → Earlier p (past p b)
past_later p b = by_feed p (b == 10)

bytes_later : (p : Place) (b : ℕ) (bs : List ℕ) → Earlier p (fold past p (b ∷ bs))
bytes_later p b [] = past_later p b
bytes_later p b (c ∷ bs) = later p (past p b) (fold past (past p b) (c ∷ bs)) (past_later p b) (bytes_later (past p b) c bs)

place_later : (p : Place) (bs : List ℕ) → 0 < length bs → Earlier p (place_after p bs)
unfolding place_after
place_later p [] lt = absurd (omega arith)
place_later p (b ∷ bs) lt = bytes_later p b bs

place_apart : (bytes : List ℕ) (i j : ℕ) → i < j → j ≤ length bytes → Earlier (place_at bytes i) (place_at bytes j)
unfolding place_after
place_apart bytes i j lt le =
    let m : ℕ = j - i in
    let more : List ℕ = take m (drop i bytes) in
    let e : i + m ≡ j = omega arith in
    let long : length more ≡ m = length-take-le m (drop i bytes) (omega (arith, length-drop i bytes)) in
    let same : place_after origin (take j bytes) ≡ place_after (place_after origin (take i bytes)) more =
    ap (λ (n : ℕ). place_after origin (take n bytes)) (sym e) ∙ ap (place_after origin) (take-add i m bytes) ∙ fold-append past origin (take i bytes) more in
    subst (Earlier (place_at bytes i)) (sym same) (place_later (place_at bytes i) more (omega (arith, long)))

-- ---- strings ascend

module _ (bytes : List ℕ) where
  record IsString (at m : ℕ) (t : Token) : Type 0 where
    from : at ≤ t.start
    some : t.start < m
    within : t.start ≤ length bytes
    line : t.line ≡ (place_at bytes t.start).line
    col : t.col ≡ (place_at bytes t.start).col

  abbrev AreStrings : ℕ → List Token → Type 0
  AreStrings at [] = Unit {0}
  AreStrings at (t ∷ ts) = (m : ℕ) × (at ≤ m) × (t.kind ≡ Str → IsString at m t) × AreStrings m ts

  joined : (b : Bool) (due : Option Place) (at : ℕ) (ts : List Token) → AreStrings at ts → AreStrings at (semicolon_before b due ++ ts)
  joined true None at ts h = h
  joined true (Some p) at ts h = (at, omega arith, (λ e. absurd cc), h)
  joined false due at ts h = h

  in_words : (due : Option Place) (at : ℕ) (ws : List Token) → AreWords bytes at ws → AreStrings at (with_semicolons bytes due at ws)
  in_words due at [] found = tt
  in_words due at (t ∷ []) found =
      let last : t.kind ≡ End = found.1.kind in
      joined (ends_line bytes at t) due at (t ∷ []) (at, omega arith, (λ e. let clash : End ≡ Str = sym last ∙ e in absurd cc), tt)
  in_words due at (t ∷ u ∷ ts) found =
      let up : at ≤ t.start = found.0.ascends in
      let some : t.start < t.end = found.1.some_bytes in
      joined (ends_line bytes at t) due at _
      (t.end, omega (arith, up, some), (λ e. record { from = up; some = some; within = found.0.within; line = found.0.line; col = found.0.col }), in_words (due_after t.kind (place_at bytes t.end)) t.end (u ∷ ts) found.2)

  no_tokens : (x y : List Token) (t : Token) → [] ≡ x ++ (t ∷ y) → ⊥
  no_tokens [] y t e = absurd cc
  no_tokens (v ∷ x) y t e = absurd cc

  record StandsFrom (at : ℕ) (t : Token) : Type 0 where
    from : at ≤ t.start
    within : t.start ≤ length bytes
    line : t.line ≡ (place_at bytes t.start).line
    col : t.col ≡ (place_at bytes t.start).col

  stands : (at : ℕ) (ts x y : List Token) (t : Token) → AreStrings at ts → ts ≡ x ++ (t ∷ y) → t.kind ≡ Str → StandsFrom at t
  stands at [] x y t h e k = absurd (no_tokens x y t e)
  stands at (v ∷ vs) [] y t h e k =
      let same : v ≡ t = cc in
      let s : IsString at h.0 t = subst (λ (v : Token). v.kind ≡ Str → IsString at h.0 v) same h.2 k in
      record { from = s.from; within = s.within; line = s.line; col = s.col }
  stands at (v ∷ vs) (z ∷ x) y t h e k =
      let rest : vs ≡ x ++ (t ∷ y) = cc in
      let s = stands h.0 vs x y t h.3 rest k in
      let le : at ≤ h.0 = h.1 in
      let up : h.0 ≤ t.start = s.from in
      record { from = omega (arith, le, up); within = s.within; line = s.line; col = s.col }

  -- ---- so the first at a spot is the one there

  both : (a b : Bool) → (a && b) ≡ true → (a ≡ true) × (b ≡ true)
  both true b e = (refl, e)
  both false b e = absurd cc

  all_true : (a b c : Bool) → a ≡ true → b ≡ true → c ≡ true → (a && (b && c)) ≡ true
  all_true a b c d e f = rw (d, e, f) refl

  is_at : (s : Spot) (t : Token) → t.kind ≡ Str → t.line ≡ s.line → t.col ≡ s.col → is_string_at s t ≡ true
  is_at s t k line col = all_true (is_kind t.kind Str) (t.line == s.line) (t.col == s.col) (ap (λ (k : TokenKind). is_kind k Str) k ∙ kind_is Str) (eq-eqb t.line s.line line) (eq-eqb t.col s.col col)

  clash : (at : ℕ) (vs x y : List Token) (v t : Token) (s : Spot) → AreStrings at (v ∷ vs) → vs ≡ x ++ (t ∷ y) → t.kind ≡ Str → t.line ≡ s.line → t.col ≡ s.col → is_string_at s v ≡ true → ⊥
  clash at vs x y v t s h rest k line col here =
      let a = both (is_kind v.kind Str) ((v.line == s.line) && (v.col == s.col)) here in
      let b = both (v.line == s.line) (v.col == s.col) a.1 in
      let first = h.2 (same_kind v.kind Str a.0) in
      let second = stands h.0 vs x y t h.3 rest k in
      let some : v.start < h.0 = first.some in
      let up : h.0 ≤ t.start = second.from in
      let apart = place_apart bytes v.start t.start (omega (arith, some, up)) second.within in
      let one_line : (place_at bytes v.start).line ≡ (place_at bytes t.start).line = sym first.line ∙ eqb-true v.line s.line b.0 ∙ sym line ∙ second.line in
      let one_col : (place_at bytes v.start).col ≡ (place_at bytes t.start).col = sym first.col ∙ eqb-true v.col s.col b.1 ∙ sym col ∙ second.col in
      let less : (place_at bytes v.start).col < (place_at bytes t.start).col = apart.col one_line in
      omega (arith, less, one_col)

  first_at : (at : ℕ) (ts x y : List Token) (t : Token) (s : Spot) → AreStrings at ts → ts ≡ x ++ (t ∷ y) → t.kind ≡ Str → t.line ≡ s.line → t.col ≡ s.col → string_at s ts ≡ t.start
  first_at at [] x y t s h e k line col = absurd (no_tokens x y t e)
  first_at at (v ∷ vs) [] y t s h e k line col =
      let same : v ≡ t = cc in
      ap (λ (v : Token). cond (is_string_at s v) v.start (string_at s vs)) same ∙ ap (λ (b : Bool). cond b t.start (string_at s vs)) (is_at s t k line col)
  first_at at (v ∷ vs) (z ∷ x) y t s h e k line col =
      let rest : vs ≡ x ++ (t ∷ y) = cc in
      by_test (is_string_at s v) refl rest (first_at h.0 vs x y t s h.3 rest k line col)
    where
      by_test : (b : Bool) → is_string_at s v ≡ b → vs ≡ x ++ (t ∷ y) → string_at s vs ≡ t.start → string_at s (v ∷ vs) ≡ t.start
      by_test true here rest behind = absurd (clash at vs x y v t s h rest k line col here)
      by_test false here rest behind = ap (λ (b : Bool). cond b v.start (string_at s vs)) here ∙ behind

pub string_is : (bytes : List ℕ) (ts x y : List Token) (t : Token) (s : Spot) → Tokens bytes ts → ts ≡ x ++ (t ∷ y) → t.kind ≡ Str → t.line ≡ s.line → t.col ≡ s.col → string_at s ts ≡ t.start
string_is bytes ts x y t s found = first_at bytes _ ts x y t s (subst (AreStrings bytes _) (sym found.tokens.tokens) (in_words bytes None _ found.tokens.words found.tokens.stand))
