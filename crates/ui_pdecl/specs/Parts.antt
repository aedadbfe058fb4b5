-- Parts of readers that the code reads by calls of their own.
use Rattle.std.specs.Prelude.{ℕ, max, Bool, true, false, ◌&&◌, List, [], ◌∷◌, ◌++◌, length, Option, Some, None, nat_le, if◌then◌else◌}
use Rattle.ui_base.specs.declared.value.Spot.{Spot}
use Rattle.ui_scan.specs.declared.kind.TokenKind.TheVariants.{LBracket, RBracket, RParen, Assign, «Type» as AType, Func}
use Rattle.ui_tree.specs.declared.part.Placed.{Placed}
use Rattle.ui_tree.specs.Tree.{TypeTree}
use Rattle.ui_tree.specs.Stmt.{TypeGroup, Recv, Decl, type_decl, method_decl, no_groups, given_groups}
use Rattle.ui_tree.specs.View.{groups, kept, types}
use Rattle.ui_grammar.specs.Both.{continues, all_expressions}
use Rattle.ui_parse.specs.Reader.{Outcome, Reader, ◌>>=◌, pure, take_by, marked, expect, rest_of}
use Rattle.ui_stmts.specs.Common.{Sized, sized, specs}
use Rattle.ui_tree.specs.declared.part.Group.{Group}
use Rattle.ui_syntax.specs.Cover.{Read}
use Rattle.ui_syntax.specs.Types.{group}
use Rattle.ui_stmts.specs.Decls.{TypeParams, add_bound, maybe_bound, farther, bracketed_group, generic_group, plain_group, recv, type_params, signature, block, func_behind, opened, type_spec, function}

-- of the terms of a bound: the first goes on with an expression behind a name, and the others are expressions too
abbrev pub continue_of : List TypeTree → Bool
continue_of [] = false
continue_of (t ∷ us) = continues t && all_expressions (types us)

-- what goes farther of two outcomes
abbrev pub farther_of : {A : Type 0} → Outcome A → Outcome A → Outcome A
farther_of a b = if nat_le (length (rest_of a)) (length (rest_of b)) then a else b

-- type parameters with one more group, which waited for its bound
abbrev pub with_bound : List (Group TypeTree) → List Placed → ℕ → Read TypeTree → TypeParams
with_bound gs ns k t = record { groups = gs ++ (group ns t.tree ∷ []); waiting = []; depth = max k t.depth }

module _ (room : ℕ) where
  -- behind a type parameter's name
  abbrev pub param_named : TypeParams → Placed → Reader TypeParams
  param_named ps p = maybe_bound room >>= (λ t. pure (add_bound ps p t))

  -- behind a receiver's type
  abbrev pub receiver_close : Spot → Option Placed → Bool → Placed → Option (List Placed) → Reader Recv
  receiver_close s n pointer of ps = expect RParen >>= (λ _. pure (recv room s n pointer of ps))

  abbrev pub receiver_params : Spot → Option Placed → Bool → Placed → List Placed → Reader Recv
  receiver_params s n pointer of ps = expect RBracket >>= (λ _. receiver_close s n pointer of (Some ps))

  -- behind a type specification's name and a bracket
  abbrev pub bracketed : Placed → Spot → Reader (Sized TypeGroup)
  bracketed p s = if nat_le 1 room then farther (bracketed_group room p s) (generic_group room p) else generic_group room p

  -- behind a type specification's name
  abbrev pub named_spec : Placed → Reader (Sized TypeGroup)
  named_spec p = take_by (marked Assign) (λ _. plain_group room p true) (take_by (marked LBracket) (λ s. bracketed p s) (plain_group room p false))

  -- behind a method's name
  abbrev pub method_named : Spot → Recv → Placed → Reader (Sized Decl)
  method_named s r n = signature room >>= (λ g. block room >>= (λ b. pure (sized (method_decl s r n (groups kept g.params) g.of b.of) (max g.depth b.depth))))

  -- behind a function's name
  abbrev pub func_named : Spot → Placed → Reader (Sized Decl)
  func_named s n = take_by (marked LBracket) (λ _. type_params room >>= (λ ps. func_behind room s n (given_groups (groups kept ps.groups)) ps.depth)) (func_behind room s n no_groups 0)

  -- behind the keyword of types
  abbrev pub types_behind : Spot → Reader (Sized Decl)
  types_behind s = specs (type_spec room) >>= (λ ts. pure (sized (type_decl s ts.of) ts.depth))

  -- types, a function or a method, or none
  abbrev pub type_or_func : Reader (Option (Sized Decl))
  type_or_func = take_by (marked AType) (λ s. opened room (types_behind s)) (take_by (marked Func) (λ s. opened room (function room s)) (pure None))
