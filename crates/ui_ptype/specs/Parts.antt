-- Parts of readers that the code reads by calls of their own.
use Rattle.std.specs.Prelude.{ℕ, suc, Bool, true, false, Option, Some, None}
use Rattle.ui_base.specs.declared.value.Spot.{Spot}
use Rattle.ui_scan.specs.declared.kind.TokenKind.TheVariants.{LParen}
use Rattle.ui_tree.specs.declared.part.Placed.{Placed}
use Rattle.ui_tree.specs.Tree.{TypeTree, Tree}
use Rattle.ui_parse.specs.Reader.{Reader, ◌>>=◌, pure, refuse, take_by, marked}
use Rattle.ui_syntax.specs.Cover.{Read}
use Rattle.ui_syntax.specs.Types.{Nested, of_type, or_refuse, a_type, a_lower_type, plain_type, tilde_of, opened, signature, method_of, named_type, union_from}

-- the type that the text of an expression is too
abbrev pub covered : Read Tree → Option TypeTree → Reader (Read TypeTree)
covered x None = refuse
covered x (Some t) = pure (of_type t x.spot x.depth)

module _ (room : ℕ) (inner : Nested) where
  -- a part, or one of the next lower budget
  abbrev pub type_in : Bool → Reader (Read TypeTree)
  type_in false = a_type room inner
  type_in true = a_lower_type room inner

  abbrev pub own_plain : Reader (Read TypeTree)
  own_plain = plain_type room inner >>= or_refuse

  -- behind "~"
  abbrev pub tilde_type : Spot → Reader (Read TypeTree)
  tilde_type s = own_plain >>= (λ t. pure (tilde_of room inner s t))

  -- behind a name
  abbrev pub named_element : Placed → Reader (Option (Read TypeTree))
  named_element p = take_by (marked LParen) (λ _. opened room inner (signature room inner (method_of room inner p))) (named_type (suc room) (a_type room inner) p >>= union_from room inner)
