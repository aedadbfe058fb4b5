-- The tokens of a source, one after another. Go specification, "Semicolons".
use Rattle.std.specs.Prelude.{ℕ, suc, zero, ◌+◌, ◌-◌, Bool, true, false, ◌==◌, List, [], ◌∷◌, ◌++◌, take, drop, length, Option, None, Some, Result, Ok, Err, fold, if◌then◌else◌}
use Rattle.ui_scan.specs.Piece.{piece}
use Rattle.ui_scan.specs.Source.{mark_len, text_len, text_fault}
use Rattle.ui_scan.specs.declared.piece.Piece.{Piece}
use Rattle.ui_scan.specs.declared.piece.Piece.TheVariants as a
use Rattle.ui_scan.specs.declared.place.Place.{Place}
use Rattle.ui_scan.specs.declared.kind.Token.{Token}
use Rattle.ui_scan.specs.declared.kind.ScanFault.{ScanFault}
use Rattle.ui_scan.specs.declared.kind.ScanKind.{ScanKind}
use Rattle.ui_scan.specs.declared.kind.TokenKind.{TokenKind}
use Rattle.ui_scan.specs.declared.kind.TokenKind.TheVariants.{Ident, Int, Rune, Str, Semi, End, Break, Continue, Fallthrough, Return, Inc, Dec, RParen, RBracket, RBrace}

-- the place behind one more byte: a line feed (10) ends a line
abbrev pub past : Place → ℕ → Place
past p b = if b == 10 then record { at = p.at + 1; line = p.line + 1; col = 1 } else record { at = p.at + 1; line = p.line; col = p.col + 1 }

-- the place behind these bytes
unfoldable pub place_after : Place → List ℕ → Place
place_after p bytes = fold past p bytes

-- the start of a file
abbrev pub origin : Place
origin = record { at = 0; line = 1; col = 1 }

-- a line that ends behind such a token gets a semicolon
abbrev pub ends_statement : TokenKind → Bool
ends_statement Ident = true
ends_statement Int = true
ends_statement Rune = true
ends_statement Str = true
ends_statement Break = true
ends_statement Continue = true
ends_statement Fallthrough = true
ends_statement Return = true
ends_statement Inc = true
ends_statement Dec = true
ends_statement RParen = true
ends_statement RBracket = true
ends_statement RBrace = true
ends_statement _ = false

-- a token between two places
abbrev pub token_between : TokenKind → Place → Place → Token
token_between kind p q = record { kind = kind; start = p.at; end = q.at; line = p.line; col = p.col }

-- What a scan gives: some tokens, and what it then gives each time, the end of the bytes or a fault.
pub record Outcome : Type 0 where
  pub front : List Token
  pub ends : Result Token ScanFault

-- what it gives first, and what is left then
abbrev pub first_of : List Token → Result Token ScanFault → Result Token ScanFault
first_of [] ends = ends
first_of (t ∷ ts) ends = Ok t

abbrev pub tail : List Token → List Token
tail [] = []
tail (t ∷ ts) = ts

abbrev pub first : Outcome → Result Token ScanFault
first o = first_of o.front o.ends

abbrev pub rest : Outcome → Outcome
rest o = record { front = tail o.front; ends = o.ends }

-- one more token first
abbrev pub then_outcome : List Token → Outcome → Outcome
then_outcome ts o = record { front = ts ++ o.front; ends = o.ends }

-- the semicolon of empty span at a place, if one is due
abbrev pub semicolons : Option Place → List Token
semicolons None = []
semicolons (Some p) = token_between Semi p p ∷ []

-- the semicolon that is due where a line ends
abbrev pub semicolon_due : Bool → Option Place → Option Token
semicolon_due true (Some p) = Some (token_between Semi p p)
semicolon_due true None = None
semicolon_due false due = None

-- where a semicolon is due if the line ends behind this token
abbrev pub due_after : TokenKind → Place → Option Place
due_after kind p = if ends_statement kind then Some p else None

abbrev pub fault_at : ScanKind → ℕ → ScanFault
fault_at kind at = record { kind = kind; at = at }

-- the fault of a token or comment in which the text ends: its own at the end of the bytes, else what stands there
abbrev pub open_fault : Option ScanKind → ScanKind → Place → List ℕ → ScanFault
open_fault None kind p bytes = fault_at kind p.at
open_fault (Some other) kind p bytes = fault_at other (p.at + length bytes)

-- at the end of the text: a line ends there if the bytes do
abbrev pub at_end : Option ScanKind → Option Place → Place → Outcome
at_end None due p = record { front = semicolons due; ends = Ok (token_between End p p) }
at_end (Some kind) due p = record { front = []; ends = Err (fault_at kind p.at) }

-- What comes of one piece, which begins at p: an end, or some tokens, what is due then, and the piece's length.
pub data Move : Type 0 where
  stops : ScanFault → Move
  goes : List Token → Option Place → ℕ → Move

abbrev pub move_by : Option ScanKind → Option Place → Place → List ℕ → Piece → Move
move_by fault due p bytes (a.Blank len true) = goes (semicolons due) None len
move_by fault due p bytes (a.Blank len false) = goes [] due len
move_by fault due p bytes (a.Token kind len) =
    goes (token_between kind p (place_after p (take len bytes)) ∷ []) (due_after kind (place_after p (take len bytes))) len
move_by fault due p bytes (a.Fault kind at) = stops (fault_at kind (p.at + at))
move_by fault due p bytes (a.Open kind) = stops (open_fault fault kind p bytes)

abbrev pub follow : Move → (Option Place → ℕ → Outcome) → Outcome
follow (stops fault) next = record { front = []; ends = Err fault }
follow (goes ts due len) next = then_outcome ts (next due len)

-- The outcome of what is left of the text, from a place on, where a semicolon may be due. The first bytes, as many as
-- said, belong to a piece that is done.
abbrev pub outcome_from : Option ScanKind → Option Place → Place → ℕ → List ℕ → Outcome
outcome_from fault due p passed [] = at_end fault due p
outcome_from fault due p (suc passed) (b ∷ bytes) = outcome_from fault due (past p b) passed bytes
outcome_from fault due p zero (b ∷ bytes) =
    follow (move_by fault due p (b ∷ bytes) (piece (b ∷ bytes))) (λ due' len. outcome_from fault due' (past p b) (len - 1) bytes)

-- the outcome of a text of which the first bytes are done, with the fault that stands at its end
unfoldable pub outcome : List ℕ → Option ScanKind → Option Place → Place → Outcome
outcome text fault due p = outcome_from fault due p 0 (drop p.at text)

-- the outcome of a whole file
unfoldable pub scanned : List ℕ → Outcome
scanned bytes =
    outcome (take (text_len bytes) bytes) (text_fault bytes) None (place_after origin (take (mark_len bytes) bytes))

-- all tokens up to the end, or the fault
abbrev pub all_with : List Token → Result Token ScanFault → Result (List Token) ScanFault
all_with front (Ok t) = Ok (front ++ t ∷ [])
all_with front (Err fault) = Err fault

unfoldable pub tokens_of : List ℕ → Result (List Token) ScanFault
tokens_of bytes = all_with (scanned bytes).front (scanned bytes).ends
