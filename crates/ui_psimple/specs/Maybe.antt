-- A part that may be left out, by what its reading gave.
use Rattle.std.specs.Prelude.{◌≡◌, Bool, true, false, List, length, nat_eq, Option, Some, None, Result, Ok, Err}
use Rattle.ui_grammar.specs.Word.{Word}
use Rattle.ui_parse.specs.declared.fault.ParseError.{ParseError}
use Rattle.ui_parse.specs.declared.fault.ParseError.TheVariants.{NoMemory, Fault}

abbrev pub NoneAt : {X : Type 0} → Bool → List Word → List Word → Result (Option X) ParseError → List Word → Type 0
NoneAt true start at r left = (r ≡ Ok None) × (left ≡ start)
NoneAt false start at r left = (r ≡ Err Fault) × (left ≡ at)

-- What was read from the start on, with the words behind it, as a part that may be left out: a fault at the start is
-- none.
abbrev pub OrNone : {X : Type 0} → List Word → List Word → Result X ParseError → Result (Option X) ParseError → List Word → Type 0
OrNone start at (Ok x) r left = (r ≡ Ok (Some x)) × (left ≡ at)
OrNone start at (Err NoMemory) r left = r ≡ Err NoMemory
OrNone start at (Err Fault) r left = NoneAt (nat_eq (length at) (length start)) start at r left
