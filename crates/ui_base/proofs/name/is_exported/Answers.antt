use Rattle.std.proofs.Common.{◌≡◌, ap, sym, ℕ, List, [], ◌∷◌, length, take, false, arith}
use Rattle.std.proofs.Math.Seq.{take-nil}
use Rattle.std.specs.Str.{chars}
use Rattle.ui_base.specs.Chars.{is_upper}
use Rattle.ui_base.specs.Names.{begins_with, is_exported}
use Rattle.std.specs.Str.Lossy.{utf8_valid_len}
use Rattle.ui_base.proofs.name.is_exported.Goals as goal

no_chars : (n : ℕ) → false ≡ begins_with is_upper (chars (take n []))
unfolding chars
no_chars n = sym (ap (λ bytes. begins_with is_upper (chars bytes)) (take-nil n))

no_bytes : (bytes : List ℕ) → length bytes ≡ 0 → false ≡ is_exported bytes
unfolding is_exported
no_bytes [] none = no_chars (utf8_valid_len [])
no_bytes (b ∷ bs) none = absurd (omega (arith, none))

pub returns-in-None : goal.returns-in-None
returns-in-None c = no_bytes _ (omega (arith, c.utf8_chunks.ensures.len, (rw c.in-None.is at c.next.ensures.steps).0))
