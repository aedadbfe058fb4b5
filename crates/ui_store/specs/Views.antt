-- What a store, a source and a sink tell at a moment, each with how often its device has failed. This project's own.
use Rattle.std.specs.Prelude.{ℕ, List, Option}
use Rattle.ui_store.specs.Files.{Files}
use Rattle.ui_store.specs.Calls.{Calls, Hearings}

-- The files, the calls so far (one that answered `NoMemory` may be missing), and what the calls gave.
pub record StoreView : Type 0 where
  pub files : Option Files
  pub asked : Calls
  pub heard : Hearings
  pub faults : ℕ

-- the bytes left
pub record SourceView : Type 0 where
  pub left : Option (List ℕ)
  pub faults : ℕ

-- the bytes written so far
pub record SinkView : Type 0 where
  pub written : Option (List ℕ)
  pub faults : ℕ
