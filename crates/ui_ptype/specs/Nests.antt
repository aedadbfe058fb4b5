-- A function value that reads within each budget up to the room.
use Rattle.std.specs.Prelude.{ℕ, ◌≤◌, List, Result}
use Rattle.std.specs.declared.alloc.Global.{Global}
use denote.Ref.{MutBor}
use Rattle.ui_grammar.specs.Word.{Word}
use Rattle.ui_parse.specs.declared.fault.ParseError.{ParseError}
use Rattle.ui_parse.specs.View.{Reads}
use Rattle.ui_ptype.specs.declared.nested.Ask.{Ask}
use Rattle.ui_ptype.specs.declared.nested.Got.{Got}
use Rattle.ui_ptype.specs.Asked.{asked, see_got}

pub record Nests (room : ℕ)
    (pre : Global → MutBor (List Word) → ℕ → Ask → Type 0)
    (post : Global → MutBor (List Word) → ℕ → Ask → Result Got ParseError → MutBor (List Word) → Type 0) : Type 0 where
  pub callable : (alloc : Global) (old : MutBor (List Word)) (budget : ℕ) (ask : Ask) → budget ≤ room → pre alloc old budget ask
  pub reads : (alloc : Global) (old new : MutBor (List Word)) (budget : ℕ) (ask : Ask) (r : Result Got ParseError) → budget ≤ room → post alloc old budget ask r new
      → Reads see_got (asked budget ask old.now) r new.now
