-- Lists as the code reads them: a turn at a time, with states of its own.
use Rattle.std.specs.Prelude.{◌≡◌, ℕ, zero, suc, Bool, true, false, List, length, Option, Some, None, Result, Ok, Err, if◌then◌else◌}
use denote.Ref.{MutBor}
use Rattle.ui_base.specs.declared.value.Spot.{Spot}
use Rattle.ui_scan.specs.declared.kind.TokenKind.{TokenKind}
use Rattle.ui_grammar.specs.Word.{Word}
use Rattle.ui_parse.specs.declared.fault.ParseError.{ParseError}
use Rattle.ui_parse.specs.declared.fault.ParseError.TheVariants.{Fault}
use Rattle.ui_parse.specs.declared.turn.Turn.{Turn}
use Rattle.ui_parse.specs.declared.turn.Turn.TheVariants.{Done, More}
use Rattle.ui_parse.specs.Reader.{Reader, ◌>>=◌, pure, refuse, first, tail, take_by, marked, eat, expect, Ending}
use Rattle.ui_parse.specs.View.{Reads}

-- a state before a step with the words there, and what the step gave and left
abbrev pub Ran : Type 0 → Type 1
Ran S = S → List Word → Result S ParseError → List Word → Type 0

-- a call of a function value
pub record Called {S : Type 0} (post : MutBor (List Word) → S → Result S ParseError → MutBor (List Word) → Type 0) (s : S) (ws : List Word) (r : Result S ParseError) (left : List Word) : Type 0 where
  pub old : MutBor (List Word)
  pub new : MutBor (List Word)
  pub posted : post old s r new
  pub at : old.now ≡ ws
  pub behind : new.now ≡ left

module _ {S : Type 0} (ending : Ending S) where
  -- the close
  unfoldable pub close_turn : TokenKind → S → Reader (Turn S)
  close_turn close s = if ending.may s then (do _ ← expect close; pure (Done s)) else refuse

  -- behind a part: a separator, or the close
  unfoldable pub behind_turn : TokenKind → TokenKind → S → Reader (Turn S)
  behind_turn separator close s =
      if ending.must s then (do _ ← eat separator; close_turn close s) else take_by (marked separator) (λ _. pure (More s)) (close_turn close s)

module _ {S : Type 0} (separator close : TokenKind) (ending : Ending S) (ran : Ran S) where
  -- a part, and what is behind it
  pub data PartRan (s : S) (ws : List Word) (t : Result (Turn S) ParseError) (left : List Word) : Type 0 where
    stopped : (e : ParseError) → ran s ws (Err e) left → t ≡ Err e → PartRan s ws t left
    went_on : (s2 : S) (m : List Word) → ran s ws (Ok s2) m → Reads (λ x. x) (behind_turn ending separator close s2 m) t left → PartRan s ws t left

  abbrev pub TurnBy : Bool → Option Spot → S → List Word → Result (Turn S) ParseError → List Word → Type 0
  TurnBy true (Some x) s ws t left = (t ≡ Ok (Done s)) × (left ≡ tail ws)
  TurnBy true None s ws t left = PartRan s ws t left
  TurnBy false x s ws t left = PartRan s ws t left

  -- the close, or a part
  unfoldable pub TurnRan : S → List Word → Result (Turn S) ParseError → List Word → Type 0
  TurnRan s ws t left = TurnBy (ending.may s) (first (marked close) ws) s ws t left

  abbrev pub AfterTurn : Ran S → Result (Turn S) ParseError → List Word → Result S ParseError → List Word → Type 0
  AfterTurn again (Err e) m r left = (r ≡ Err e) × (left ≡ m)
  AfterTurn again (Ok (Done s)) m r left = (r ≡ Ok s) × (left ≡ m)
  AfterTurn again (Ok (More s)) m r left = again s m r left

  -- The number bounds the turns.
  abbrev pub PartsRan : ℕ → S → List Word → Result S ParseError → List Word → Type 0
  PartsRan zero s ws r left = (r ≡ Err Fault) × (left ≡ ws)
  PartsRan (suc n) s ws r left = (t : Result (Turn S) ParseError) × (m : List Word) × TurnRan s ws t m × AfterTurn (PartsRan n) t m r left

  -- behind a first part
  abbrev pub MoreRan : S → List Word → Result S ParseError → List Word → Type 0
  MoreRan s ws r left = (t : Result (Turn S) ParseError) × (m : List Word) × Reads (λ x. x) (behind_turn ending separator close s ws) t m × AfterTurn (PartsRan (suc (length m))) t m r left

module _ {S : Type 0} (separator : TokenKind) (ran : Ran S) where
  abbrev pub AfterStep : Ran S → Result S ParseError → List Word → Result S ParseError → List Word → Type 0
  AfterStep again (Err e) m r left = (r ≡ Err e) × (left ≡ m)
  AfterStep again (Ok s) m r left = again s m r left

  abbrev pub ChainBy : Ran S → Option Spot → S → List Word → Result S ParseError → List Word → Type 0
  ChainBy again None s ws r left = (r ≡ Ok s) × (left ≡ ws)
  ChainBy again (Some x) s ws r left = (t : Result S ParseError) × (m : List Word) × ran s (tail ws) t m × AfterStep again t m r left

  abbrev pub ChainRan : ℕ → S → List Word → Result S ParseError → List Word → Type 0
  ChainRan zero s ws r left = (r ≡ Err Fault) × (left ≡ ws)
  ChainRan (suc n) s ws r left = ChainBy (ChainRan n) (first (marked separator) ws) s ws r left
