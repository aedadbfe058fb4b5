-- Trees of types and expressions as plain data, without where they lie in memory.
use Rattle.std.specs.Prelude.{Bool, List, Option}
use Rattle.ui_base.specs.declared.value.Spot.{Spot}
use Rattle.ui_base.specs.declared.value.Value.{Value}
use Rattle.ui_base.specs.declared.kind.BinOp.{BinOp}
use Rattle.ui_tree.specs.declared.part.Placed.{Placed}
use Rattle.ui_tree.specs.declared.part.LiteralKind.{LiteralKind}
use Rattle.ui_tree.specs.declared.part.PrefixOp.{PrefixOp}

mutual
  -- types
  pub data TypeTree : Type 0 where
    named : Placed → Option Placed → Args → TypeTree
    parenthesized : Spot → TypeTree → TypeTree
    pointer : Spot → TypeTree → TypeTree
    slice : Spot → TypeTree → TypeTree
    array : Spot → Tree → TypeTree → TypeTree
    counted : Spot → TypeTree → TypeTree
    mapping : Spot → TypeTree → TypeTree → TypeTree
    func : Spot → Groups → MaybeType → TypeTree
    listed : Spot → Groups → TypeTree
    struct : Spot → Groups → TypeTree
    interface : Spot → Types → TypeTree
    method : Placed → Groups → MaybeType → TypeTree
    union : Spot → Types → TypeTree
    tilde : Spot → TypeTree → TypeTree

  -- type arguments, or none
  pub data Args : Type 0 where
    no_args : Args
    args : Types → Args

  pub data Types : Type 0 where
    types_end : Types
    type_and : TypeTree → Types → Types

  -- names with their type: fields, parameters, or type parameters with their bound
  pub data Groups : Type 0 where
    groups_end : Groups
    group_and : List Placed → TypeTree → Groups → Groups

  pub data MaybeType : Type 0 where
    no_type : MaybeType
    given_type : TypeTree → MaybeType

  -- expressions
  pub data Tree : Type 0 where
    literal : Spot → LiteralKind → Value → Tree
    name : Placed → Tree
    paren : Spot → Tree → Tree
    convert : Spot → TypeTree → Tree → Tree
    composite : Spot → TypeTree → Trees → Tree
    elided : Spot → Trees → Tree
    keyed : Spot → Tree → Tree → Tree
    instance : Spot → Tree → Types → Tree
    selector : Spot → Tree → Placed → Tree
    assert : Spot → Tree → TypeTree → Tree
    index : Spot → Tree → Tree → Tree
    sliced : Spot → Tree → MaybeTree → MaybeTree → MaybeTree → Tree
    call : Spot → Tree → Trees → Bool → Tree
    type_arg : TypeTree → Tree
    unary : Spot → PrefixOp → Tree → Tree
    binary : Spot → BinOp → Tree → Tree → Tree

  pub data Trees : Type 0 where
    trees_end : Trees
    tree_and : Tree → Trees → Trees

  pub data MaybeTree : Type 0 where
    absent : MaybeTree
    given : Tree → MaybeTree
