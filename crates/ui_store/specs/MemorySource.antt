-- A source in memory: what it holds, and what a read does. This project's own.
use Rattle.std.specs.Prelude.{◌≡◌, ℕ, List, ◌++◌, length, take, drop, min, Result, is_err, IfOk, MatchResult, if◌then◌else◌}
use Rattle.ui_store.specs.Numbers.{next, is_due}
use Rattle.ui_store.specs.declared.memory_source.MemSource.{MemSource}

-- the bytes left, the numbers of the calls that fail, the number of the next call, and the count of faults
pub record Supply : Type 0 where
  pub left : List ℕ
  pub fails : List ℕ
  pub calls : ℕ
  pub faults : ℕ

-- what a source in memory holds
abbrev pub supply_of : MemSource → Supply
supply_of s = record { left = drop s.taken s.bytes.items; fails = s.fails.items; calls = s.calls; faults = s.faults }

-- One read of a source in memory. It fails exactly where its number is on the list. Else it moves all that is left, or
-- as much as the piece holds, and leaves the rest of the piece.
pub record IsRead {E : Type 0} (old new : Supply) (before after : List ℕ) (result : Result ℕ E) : Type 0 where
  pub number : new.calls ≡ next old.calls
  pub list : new.fails ≡ old.fails
  pub fails : is_err result ≡ is_due old.fails old.calls
  pub faults : new.faults ≡ (if is_err result then next old.faults else old.faults)
  pub count : IfOk result (λ n. n ≡ min (length before) (length old.left))
  pub piece : MatchResult result (λ n. after ≡ take n old.left ++ drop n before) (λ e. after ≡ before)
