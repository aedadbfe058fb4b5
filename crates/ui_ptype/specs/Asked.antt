-- Parts that are read within a smaller budget, by what is asked for.
use Rattle.std.specs.Prelude.{ℕ, Option, ⊤}
use Rattle.ui_tree.specs.Tree.{TypeTree, Tree}
use Rattle.ui_parse.specs.Reader.{Reader, ◌>>=◌, pure}
use Rattle.ui_syntax.specs.Cover.{Read}
use Rattle.ui_syntax.specs.Types.{Listed}
use Rattle.ui_syntax.specs.Read.{readers}
use Rattle.ui_ptype.specs.declared.nested.Ask.{Ask}
use Rattle.ui_ptype.specs.declared.nested.Ask.TheVariants as ask
use Rattle.ui_ptype.specs.declared.nested.Got.{Got}
use Rattle.ui_ptype.specs.declared.nested.Got.TheVariants.{Level, MaybeType, Braces}
use Rattle.ui_ptype.specs.Seen.{see, see_maybe, see_all}

pub data Part : Type 0 where
  level : Read Tree → Part
  maybe_type : Option (Read TypeTree) → Part
  braces : Listed Tree → Part

abbrev pub see_got : Got → Part
see_got (Level s) = level (see s)
see_got (MaybeType o) = maybe_type (see_maybe o)
see_got (Braces s) = braces (see_all s)

-- the reader of what is asked for, of a budget
abbrev pub asked : ℕ → Ask → Reader Part
asked budget (ask.Level s least) = (readers budget).level s least >>= (λ t. pure (level t))
asked budget (ask.MaybeType p) = (readers budget).maybe_type p >>= (λ o. pure (maybe_type o))
asked budget ask.Braces = (readers budget).braces >>= (λ l. pure (braces l))

abbrev pub IsLevel : Got → Type 0
IsLevel (Level s) = ⊤
IsLevel (MaybeType o) = ⊥
IsLevel (Braces s) = ⊥

abbrev pub IsMaybeType : Got → Type 0
IsMaybeType (Level s) = ⊥
IsMaybeType (MaybeType o) = ⊤
IsMaybeType (Braces s) = ⊥

abbrev pub AreBraces : Got → Type 0
AreBraces (Level s) = ⊥
AreBraces (MaybeType o) = ⊥
AreBraces (Braces s) = ⊤
