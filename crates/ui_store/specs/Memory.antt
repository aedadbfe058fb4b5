-- A store in memory: what it holds and tells, and its files by their entries. This project's own.
use Rattle.std.specs.Prelude.{◌≡◌, ℕ, true, false, List, map, take, Option, Some, None, option_map, option_copied, Result, Ok, Err, Vec, String, string_bytes, string_cmp}
use Rattle.std.specs.declared.alloc.Global.{Global}
use Rattle.std.specs.Ordering.{nat_cmp}
use Rattle.std.specs.Map.{lookup}
use Rattle.std.specs.BTreeMap.{is_at, insert_entry}
use Rattle.std.specs.List.Sorted.{IsStrictlySortedBy}
use Rattle.std.specs.Cmp.Lexicographic.{slice_cmp}
use Rattle.std.specs.FinMap.{get, insert, keys}
use denote.Ref.{Bor}
use Rattle.ui_base.specs.Entries.{bytes_of, map_of}
use Rattle.ui_base.proofs.EntryLemmas.{map_of-insert, look-map_of, keys-map_of}
use Rattle.ui_store.specs.Files.{Files}
use Rattle.ui_store.specs.Calls.{Ask}
use Rattle.ui_store.specs.Views.{StoreView}
use Rattle.ui_store.specs.Numbers.{next, is_due}
use Rattle.ui_store.specs.declared.fault.StoreFault.{StoreFault}
use Rattle.ui_store.specs.declared.fault.StoreFault.TheVariants.{Missing, TooLong, Failed, NoMemory}
use Rattle.ui_store.specs.declared.memory.MemStore.{MemStore}
use Rattle.ui_store.specs.declared.store.Asked.{Asked}

abbrev pub Entry : Type 0
Entry = String Global × Vec ℕ Global

-- the files of a map's entries
unfoldable pub files_of : List Entry → Files
files_of es = map_of string_bytes bytes_of es

-- a call, without where it lies in memory
abbrev pub ask_of : Asked → Ask
ask_of a = (a.what, a.name)

-- What a store in memory holds: its files, the calls asked, the numbers of the calls that fail, how many bytes a
-- failing write keeps, the number of the next call, and the count of faults.
pub record Memory : Type 0 where
  pub files : Files
  pub asked : List Ask
  pub fails : List ℕ
  pub keep : ℕ
  pub calls : ℕ
  pub faults : ℕ

-- what a store in memory holds
abbrev pub memory_of : MemStore → Memory
memory_of m = record { files = files_of m.files.entries; asked = map ask_of m.asked.items; fails = m.fails.items; keep = m.keep; calls = m.calls; faults = m.faults }

-- what such a store tells
abbrev pub memory_told : Memory → StoreView
memory_told m = record { files = Some m.files; asked = Some m.asked; heard = None; faults = m.faults }

-- A call fails exactly where its number is on the list, and then the count goes up, but where memory ran out.
abbrev pub FailsByNumber : {X : Type 0} → Memory → Memory → Result X StoreFault → Type 0
FailsByNumber old new (Ok x) = (is_due old.fails old.calls ≡ false) × (new.faults ≡ old.faults)
FailsByNumber old new (Err Missing) = (is_due old.fails old.calls ≡ false) × (new.faults ≡ old.faults)
FailsByNumber old new (Err TooLong) = (is_due old.fails old.calls ≡ false) × (new.faults ≡ old.faults)
FailsByNumber old new (Err Failed) = (is_due old.fails old.calls ≡ true) × (new.faults ≡ next old.faults)
FailsByNumber old new (Err NoMemory) = new.faults ≡ old.faults

-- one call of a store in memory
pub record IsCall {X : Type 0} (old new : Memory) (result : Result X StoreFault) : Type 0 where
  pub number : new.calls ≡ next old.calls
  pub list : new.fails ≡ old.fails
  pub keep : new.keep ≡ old.keep
  pub fails : FailsByNumber old new result

-- a write that failed keeps a front of the bytes; without memory the files stay
abbrev pub Keeps : Result Unit StoreFault → Memory → Memory → List ℕ → List ℕ → Type 0
Keeps (Ok x) old new name bytes = new.files ≡ insert old.files name bytes
Keeps (Err Failed) old new name bytes = new.files ≡ insert old.files name (take old.keep bytes)
Keeps (Err NoMemory) old new name bytes = new.files ≡ old.files
Keeps (Err Missing) old new name bytes = ⊥
Keeps (Err TooLong) old new name bytes = ⊥

-- to insert an entry is to put a file
pub files_of-insert : (es : List Entry) (k : String Global) (v : Vec ℕ Global) → files_of (insert_entry string_cmp es k v) ≡ insert (files_of es) (string_bytes k) v.items
unfolding files_of
files_of-insert es k v = map_of-insert string_bytes bytes_of es k v

-- a look-up in the map finds the file
pub get_files_of : (es : List Entry) (q : List ℕ) (r : Option (Bor (Vec ℕ Global))) → option_copied r ≡ lookup (is_at (λ (k : String Global). slice_cmp nat_cmp q (string_bytes k))) es → option_map (λ v. v.now.items) r ≡ get (files_of es) q
unfolding files_of
get_files_of es q r e = look-map_of string_bytes bytes_of es q r e

-- the names of the files are the keys
pub keys_of_files : (es : List Entry) → IsStrictlySortedBy string_cmp (map (λ e. e.0) es) → keys (files_of es) ≡ map string_bytes (map (λ e. e.0) es)
unfolding files_of
keys_of_files es h = keys-map_of string_bytes bytes_of es h

pub ruleset puts = (files_of-insert)
