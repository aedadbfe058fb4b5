-- What code gives that stops at the first fault or at want of memory.
use Rattle.std.specs.Prelude.{◌≡◌, ℕ, ◌+◌, ◌==◌, List, Option, Some, None, Result, Ok, Err, if◌then◌else◌}
use Rattle.ui_base.specs.declared.value.Spot.{Spot}
use Rattle.ui_pexpr.specs.declared.fault.ParseFault.{ParseFault}
use Rattle.ui_pexpr.specs.declared.fault.ParseFault.TheVariants as parse
use Rattle.ui_base.specs.declared.fault.Fault.{Fault}
use Rattle.ui_base.specs.declared.fault.CheckFault.{CheckFault}
use Rattle.ui_base.specs.declared.fault.CheckFault.TheVariants as check
use Rattle.ui_sources.specs.Sources.{SourceFile, is_large, measured, parse_fault, total}
use Rattle.ui_base.specs.Steps.{each}

-- a reading by this definition, with what is seen of the value; or want of memory
abbrev pub Gives : {A B : Type 0} → (B → A) → Result A Fault → Result B CheckFault → Type 0
Gives see r (Ok x) = r ≡ Ok (see x)
Gives see r (Err (check.Fault f)) = r ≡ Err f
Gives see r (Err check.NoMemory) = Unit {0}

-- the end of a reading with this fault, or want of memory
abbrev pub IsFault : Fault → CheckFault → Type 0
IsFault fault (check.Fault f) = f ≡ fault
IsFault fault check.NoMemory = Unit {0}

-- none of the sources is too long
abbrev pub AreMeasured : List SourceFile → Type 0
AreMeasured sources = each measured sources ≡ Ok sources

-- the bytes of sources together, or nothing where these are too large for a package
abbrev pub size_within : List SourceFile → Option ℕ
size_within sources = if is_large sources then None else Some (total sources)

-- the line and the column behind one more byte: a line feed (10) ends a line
abbrev pub spot_past : Spot → ℕ → Spot
spot_past s b = if b == 10 then record { line = s.line + 1; col = 1 } else record { line = s.line; col = s.col + 1 }

-- the end of a reading with this fault of parsing in a source
abbrev pub IsParseFault : SourceFile → ParseFault → CheckFault → Type 0
IsParseFault s (parse.Unexpected at) e = IsFault (parse_fault s (parse.Unexpected at)) e
IsParseFault s (parse.TooDeep at) e = IsFault (parse_fault s (parse.TooDeep at)) e
IsParseFault s (parse.Outside at form) e = IsFault (parse_fault s (parse.Outside at form)) e
IsParseFault s (parse.BadImportPath at) e = IsFault (parse_fault s (parse.BadImportPath at)) e
IsParseFault s parse.NoMemory e = e ≡ check.NoMemory
