-- Lines and columns of places.
use Rattle.std.proofs.Common.{◌≡◌, ℕ, ◌+◌, ◌==◌, ◌<◌, ◌≤◌, Bool, true, false, List, [], take, length, get_or, refl, sym, ap, ◌∙◌, arith, cond, subst}
use Rattle.std.proofs.lemmas.List.Sums.{fold_more}
use Rattle.ui_base.specs.declared.value.Spot.{Spot}
use Rattle.ui_scan.specs.Scan.{past, place_after, origin}
use Rattle.ui_scan.specs.declared.place.Place.{Place}
use Rattle.ui_sources.specs.Sources.{front}
use Rattle.ui_sources.specs.Choosing.{spot_past}

-- a place's line and column
abbrev pub spot_of : Place → Spot
spot_of p = record { line = p.line; col = p.col }

-- behind some bytes
abbrev pub spot_behind : List ℕ → Spot
spot_behind bytes = spot_of (place_after origin bytes)

pub at_start : front ≡ spot_behind []
unfolding place_after
at_start = refl

abbrev spot_down : Spot → Spot
spot_down s = record { line = s.line + 1; col = 1 }

abbrev spot_on : Spot → Spot
spot_on s = record { line = s.line; col = s.col + 1 }

abbrev place_down : Place → Place
place_down p = record { at = p.at + 1; line = p.line + 1; col = 1 }

abbrev place_on : Place → Place
place_on p = record { at = p.at + 1; line = p.line; col = p.col + 1 }

spot-past : (p : Place) (b : ℕ) → spot_past (spot_of p) b ≡ spot_of (past p b)
spot-past p b = chosen (b == 10)
  where
    chosen : (v : Bool) → cond v (spot_down (spot_of p)) (spot_on (spot_of p)) ≡ spot_of (cond v (place_down p) (place_on p))
    chosen true = refl
    chosen false = refl

pub one_more : (bytes : List ℕ) (i : ℕ) (s t : Spot) → i < length bytes → s ≡ spot_behind (take i bytes) → t ≡ spot_past s (get_or bytes i 0) → t ≡ spot_behind (take (i + 1) bytes)
unfolding place_after
one_more bytes i s t h before e =
    e
    ∙ ap (λ u. spot_past u (get_or bytes i 0)) before
    ∙ spot-past (place_after origin (take i bytes)) (get_or bytes i 0)
    ∙ ap spot_of (sym (fold_more past origin bytes i 0 h))

line_of : (v : Bool) (s : Spot) (n : ℕ) → s.line ≤ 1 + n → (cond v (spot_down s) (spot_on s)).line ≤ 1 + (n + 1)
line_of true s n h = omega arith
line_of false s n h = omega arith

col_of : (v : Bool) (s : Spot) (n : ℕ) → s.col ≤ 1 + n → (cond v (spot_down s) (spot_on s)).col ≤ 1 + (n + 1)
col_of true s n h = omega arith
col_of false s n h = omega arith

pub line_grows : (s t : Spot) (b n : ℕ) → t ≡ spot_past s b → s.line ≤ 1 + n → t.line ≤ 1 + (n + 1)
line_grows s t b n e h = subst (λ (u : Spot). u.line ≤ 1 + (n + 1)) (sym e) (line_of (b == 10) s n h)

pub col_grows : (s t : Spot) (b n : ℕ) → t ≡ spot_past s b → s.col ≤ 1 + n → t.col ≤ 1 + (n + 1)
col_grows s t b n e h = subst (λ (u : Spot). u.col ≤ 1 + (n + 1)) (sym e) (col_of (b == 10) s n h)
