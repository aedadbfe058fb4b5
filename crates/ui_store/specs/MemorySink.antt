-- A sink in memory: what it holds, and what a write does. This project's own.
use Rattle.std.specs.Prelude.{◌≡◌, ℕ, ◌-◌, ◌||◌, ◌&&◌, nat_eq, nat_lt, List, length, min, Result, is_err, IfOk, if◌then◌else◌}
use Rattle.ui_store.specs.Numbers.{next, is_due}
use Rattle.ui_store.specs.declared.memory_sink.MemSink.{MemSink}

-- the bytes written, how many there is room for, the numbers of the calls that fail, the number of the next call, and
-- the count of faults
pub record Buffer : Type 0 where
  pub written : List ℕ
  pub room : ℕ
  pub fails : List ℕ
  pub calls : ℕ
  pub faults : ℕ

-- what a sink in memory holds
abbrev pub buffer_of : MemSink → Buffer
buffer_of s = record { written = s.bytes.items; room = s.room; fails = s.fails.items; calls = s.calls; faults = s.faults }

-- how many bytes there is room for yet
abbrev pub room_left : Buffer → ℕ
room_left b = b.room - length b.written

-- One write to a sink in memory. It fails exactly where its number is on the list, or where bytes are to be written
-- and no room is left. Else it takes the piece, or as much as the room left holds.
pub record IsWrite {E : Type 0} (old new : Buffer) (piece : List ℕ) (result : Result ℕ E) : Type 0 where
  pub number : new.calls ≡ next old.calls
  pub list : new.fails ≡ old.fails
  pub room : new.room ≡ old.room
  pub fails : is_err result ≡ (is_due old.fails old.calls || (nat_lt 0 (length piece) && nat_eq (room_left old) 0))
  pub faults : new.faults ≡ (if is_err result then next old.faults else old.faults)
  pub count : IfOk result (λ n. n ≡ min (length piece) (room_left old))
