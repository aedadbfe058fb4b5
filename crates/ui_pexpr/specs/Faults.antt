-- Where faults stand, and of which kind they are.
use Rattle.std.specs.Prelude.{◌≡◌, ℕ, Bool, true, false, List, [], ◌∷◌, length, take, drop, Option, Some, None}
use Rattle.ui_scan.specs.declared.kind.Token.{Token}
use Rattle.ui_scan.specs.declared.kind.TokenKind.{TokenKind}
use Rattle.ui_grammar.specs.Word.{Word, words}
use Rattle.ui_grammar.specs.Parse.{PassesDepth}
use Rattle.ui_pexpr.specs.declared.fault.Form.{Form}
use Rattle.ui_pexpr.specs.declared.fault.ParseFault.{ParseFault}
use Rattle.ui_pexpr.specs.declared.fault.ParseFault.TheVariants.{Unexpected, TooDeep, Outside, BadImportPath, NoMemory}

-- where the tokens begin, or the bytes end
abbrev pub first_offset : List ℕ → List Token → ℕ
first_offset bytes [] = length bytes
first_offset bytes (t ∷ ts) = t.start

abbrev pub first_kind : List Token → Option TokenKind
first_kind [] = None
first_kind (t ∷ ts) = Some t.kind

-- the fault stands at the first of these tokens
abbrev pub StandsAt : List ℕ → List Token → ParseFault → Type 0
StandsAt bytes rest (Unexpected at) = at ≡ first_offset bytes rest
StandsAt bytes rest (TooDeep at) = at ≡ first_offset bytes rest
StandsAt bytes rest (Outside at form) = at ≡ first_offset bytes rest
StandsAt bytes rest (BadImportPath at) = ⊥
StandsAt bytes rest NoMemory = ⊥

-- so many words, from a place on
abbrev pub front_of : List ℕ → List Token → ℕ → ℕ → List Word
front_of bytes ts from count = take count (drop from (words bytes ts))

-- ---- the kind

-- no form, however deep, begins with the first k words and the one behind them
abbrev pub NoDeeper : {T : Type 0} → (ℕ → List Word → T → Type 0) → List Word → ℕ → Type 0
NoDeeper Has ws k = PassesDepth Has ws k → ⊥

-- the form without trees that begins behind these words with the first of those
abbrev pub form_between : (List Word → Word → Option Form) → List Word → List Word → Option Form
form_between form_at front [] = None
form_between form_at front (w ∷ rest) = form_at front w

abbrev pub form_behind : (List Word → Word → Option Form) → List Word → ℕ → Option Form
form_behind form_at ws k = form_between form_at (take k ws) (drop k ws)

-- The kind of a fault at the word behind the first k: TooDeep where a deeper form begins with that word too; else Outside
-- where that word begins a form without trees, this one; else Unexpected.
abbrev pub IsKind : {T : Type 0} → (ℕ → List Word → T → Type 0) → (List Word → Word → Option Form) → List Word → ℕ → ParseFault → Type 0
IsKind Has form_at ws k (TooDeep at) = PassesDepth Has ws k
IsKind Has form_at ws k (Outside at form) = NoDeeper Has ws k × (form_behind form_at ws k ≡ Some form)
IsKind Has form_at ws k (Unexpected at) = NoDeeper Has ws k × (form_behind form_at ws k ≡ None)
IsKind Has form_at ws k (BadImportPath at) = ⊥
IsKind Has form_at ws k NoMemory = ⊥

-- ---- what is told

-- at a place, where it is known whether a deeper form goes on there, and which form without trees begins there
abbrev pub told : Bool → Option Form → ℕ → ParseFault
told true form at = TooDeep at
told false (Some form) at = Outside at form
told false None at = Unexpected at
