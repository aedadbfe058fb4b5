-- What the code reads, beside the reader that it follows.
use Rattle.std.specs.Prelude.{◌≡◌, List, Result, Ok, Err}
use Rattle.ui_grammar.specs.Word.{Word}
use Rattle.ui_parse.specs.declared.fault.ParseError.{ParseError}
use Rattle.ui_parse.specs.declared.fault.ParseError.TheVariants.{NoMemory, Fault}
use Rattle.ui_parse.specs.Reader.{Outcome}

-- The code's answer and the words that it leaves are those of the outcome, seen as `see` says, but for want of memory.
abbrev pub Reads : {A X : Type 0} → (X → A) → Outcome A → Result X ParseError → List Word → Type 0
Reads see (Ok p) (Ok x) left = (see x ≡ p.0) × (left ≡ p.1)
Reads see (Err ws) (Err Fault) left = left ≡ ws
Reads see o (Err NoMemory) left = Unit {0}
Reads see (Ok p) (Err Fault) left = ⊥
Reads see (Err ws) (Ok x) left = ⊥
