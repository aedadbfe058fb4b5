-- What was seen of a list so far.
use Rattle.std.specs.Prelude.{◌≡◌, Bool, List, map}
use Rattle.std.proofs.Common.{Bor}
use Rattle.std.specs.List.{list_any}
use Rattle.indexmap.specs.IndexSet.{insert_key}

-- the values that references are to
abbrev pub seen_of : {T : Type 0} → List (Bor T) → List T
seen_of rs = map (λ r. r.now) rs

-- x was put last, unless it was there
pub record IsInserted {T : Type 0} (eq : T → T → Bool) (old new : List T) (x : T)
    (was : Bool) : Type 0 where
  pub found : was ≡ list_any (eq x) old
  pub keys : new ≡ insert_key eq old x
