-- What is held of claims, by the entries of the map that holds it. This project's own.
use Rattle.std.specs.Prelude.{ℕ, Bool, ◌||◌, List, [], ◌∷◌, Option, Some, None, Vec, bytes_eq, if◌then◌else◌}
use Rattle.std.specs.declared.alloc.Global.{Global}
use Rattle.std.specs.FinMap.{get, insert}
use Rattle.ui_base.specs.Entries as entries
use Rattle.ui_base.specs.Entries.{bytes_of, map_of}
use Rattle.ui_exports.specs.Linked.{Below}
use Rattle.ui_below.specs.Claims as claims
use Rattle.ui_below.specs.Claims.{ByPath}
use Rattle.ui_below.specs.declared.claims.Held.{Held}

abbrev pub held_as : Held → claims.Held
held_as h = record { print = h.print; other = h.other; direct = h.direct }

abbrev pub entry_of : Vec ℕ Global × Held → List ℕ × claims.Held
entry_of e = entries.entry_of bytes_of held_as e

unfoldable pub holding : List (Vec ℕ Global × Held) → ByPath claims.Held
holding es = map_of bytes_of held_as es

-- the first other fingerprint, with one more
abbrev pub other_with : List ℕ → Option (List ℕ) → List ℕ → Option (List ℕ)
other_with first (Some other) print = Some other
other_with first None print = if bytes_eq first print then None else Some print

-- what is held of a path with one claim more
abbrev pub merged : Option claims.Held → List ℕ → Bool → claims.Held
merged None print direct = record { print = print; other = None; direct = direct }
merged (Some h) print direct = record { print = h.print; other = other_with h.print h.other print; direct = h.direct || direct }

abbrev pub with_claim : ByPath claims.Held → Below → ByPath claims.Held
with_claim m c = insert m c.path (merged (get m c.path) c.print c.direct)

-- with claims, one after another
abbrev pub with_claims : ByPath claims.Held → List Below → ByPath claims.Held
with_claims m [] = m
with_claims m (c ∷ cs) = with_claims (with_claim m c) cs
