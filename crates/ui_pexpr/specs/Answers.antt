-- What the parsers answer, by what their readers read.
use Rattle.std.specs.Prelude.{◌≡◌, ℕ, ◌+◌, ◌-◌, Bool, true, List, length, drop, nat_lt, Result, Ok, Err}
use Rattle.ui_scan.specs.declared.kind.Token.{Token}
use Rattle.ui_grammar.specs.Word.{Word, words}
use Rattle.ui_parse.specs.Reader.{Outcome}
use Rattle.ui_syntax.specs.Cover.{Read}
use Rattle.ui_pexpr.specs.declared.fault.ParseFault.{ParseFault}
use Rattle.ui_pexpr.specs.declared.fault.ParseFault.TheVariants.{NoMemory}
use Rattle.ui_syntax.specs.Read.{expr, type, sig}
use Rattle.ui_pexpr.specs.declared.api.Sought.{Sought}
use Rattle.ui_pexpr.specs.declared.api.Sought.TheVariants as sought
use Rattle.ui_pexpr.specs.Faults.{first_offset, form_behind, told}
use Rattle.ui_pexpr.specs.Forms.{form_at}

-- a reading succeeds, or leaves fewer words than these
abbrev pub goes_farther : {A : Type 0} → Outcome A → ℕ → Bool
goes_farther (Ok p) left = true
goes_farther (Err ws) left = nat_lt (length ws) left

-- what is sought, within a budget, goes farther than to so many words that are left
abbrev pub leads : Sought → ℕ → List Word → ℕ → Bool
leads (sought.Expr header) budget ws left = goes_farther (expr budget header ws) left
leads sought.«Type» budget ws left = goes_farther (type budget ws) left
leads sought.Sig budget ws left = goes_farther (sig budget ws) left

-- what is told behind so many words from a place on
abbrev pub told_behind : List ℕ → List Token → ℕ → ℕ → Bool → ParseFault
told_behind bytes ts from count deep = told deep (form_behind form_at (drop from (words bytes ts)) count) (first_offset bytes (drop (from + count) ts))

-- The tree that was read, with the number of the token behind it, or the fault by the second reading, but for want of
-- memory.
abbrev pub Answers : {X T : Type 0} → (X → T) → List ℕ → List Token → ℕ → Outcome (Read T) → Outcome (Read T) → Result (X × ℕ) ParseFault → Type 0
Answers see bytes ts from (Ok p) second (Ok x) = (see x.0 ≡ p.0.tree) × (x.1 ≡ length ts - length p.1)
Answers see bytes ts from (Err ws) second (Err f) = (f ≡ NoMemory → ⊥) → f ≡ told_behind bytes ts from (length ts - length ws - from) (goes_farther second (length ws))
Answers see bytes ts from (Ok p) second (Err f) = f ≡ NoMemory
Answers see bytes ts from (Err ws) second (Ok x) = ⊥
