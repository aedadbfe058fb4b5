-- Trees of statements, declarations and files as plain data.
use Rattle.std.specs.Prelude.{ℕ, Bool, List, Option}
use Rattle.ui_base.specs.declared.value.Spot.{Spot}
use Rattle.ui_base.specs.declared.kind.BinOp.{BinOp}
use Rattle.ui_tree.specs.declared.part.Placed.{Placed}
use Rattle.ui_tree.specs.declared.part.Specs.{Specs}
use Rattle.ui_tree.specs.Tree.{TypeTree, MaybeType, Groups, Tree, MaybeTree, Trees}

-- optional lists of expressions
pub data MaybeTrees : Type 0 where
  no_trees : MaybeTrees
  given_trees : Trees → MaybeTrees

-- constants or variables: names, a type and values
pub record ValueGroup : Type 0 where
  pub names : List Placed
  pub of : MaybeType
  pub values : MaybeTrees

-- `const` or `var`, with one specification or several
pub data Common : Type 0 where
  constants : Spot → Specs ValueGroup → Common
  variables : Spot → Specs ValueGroup → Common

-- what stands before `range`: places, and whether they are defined
pub data Places : Type 0 where
  no_places : Places
  places : Trees → Bool → Places

mutual
  pub data Stmt : Type 0 where
    empty : Stmt
    common : Common → Stmt
    block : Braces → Stmt
    alone : Tree → Stmt
    assign : Spot → Trees → Trees → Stmt
    op_assign : Spot → Tree → BinOp → Tree → Stmt
    define : Spot → List Placed → Trees → Stmt
    increment : Spot → Tree → Stmt
    decrement : Spot → Tree → Stmt
    returning : Spot → MaybeTrees → Stmt
    breaking : Spot → Stmt
    continuing : Spot → Stmt
    branch : Spot → MaybeStmt → Tree → Braces → MaybeStmt → Stmt
    loop : Spot → Braces → Stmt
    while_true : Spot → Tree → Braces → Stmt
    counting : Spot → Stmt → MaybeTree → Stmt → Braces → Stmt
    ranging : Spot → Places → Tree → Braces → Stmt
    switch : Spot → MaybeStmt → MaybeTree → Clauses → Stmt

  pub data MaybeStmt : Type 0 where
    no_stmt : MaybeStmt
    given_stmt : Stmt → MaybeStmt

  -- statements in braces, with the spots of both braces
  pub data Braces : Type 0 where
    braces : Spot → Stmts → Spot → Braces

  pub data Stmts : Type 0 where
    stmts_end : Stmts
    stmt_and : Stmt → Stmts → Stmts

  -- the clauses of a switch, each with its values, or none for `default`
  pub data Clauses : Type 0 where
    clauses_end : Clauses
    clause_and : Spot → MaybeTrees → Stmts → Clauses → Clauses

-- an import: its name, if it has one, and its path
pub record Imported : Type 0 where
  pub name : Option Placed
  pub path : Placed

pub record Import : Type 0 where
  pub spot : Spot
  pub specs : Specs Imported

-- a type declaration: its name, its parameters, whether it is an alias, and its type
pub record TypeGroup : Type 0 where
  pub name : Placed
  pub params : Groups
  pub alias : Bool
  pub of : TypeTree

pub record Recv : Type 0 where
  pub spot : Spot
  pub name : Option Placed
  pub pointer : Bool
  pub of : Placed
  pub params : Option (List Placed)

-- type parameters, or none
pub data MaybeGroups : Type 0 where
  no_groups : MaybeGroups
  given_groups : Groups → MaybeGroups

pub data Decl : Type 0 where
  common_decl : Common → Decl
  type_decl : Spot → Specs TypeGroup → Decl
  method_decl : Spot → Recv → Placed → Groups → MaybeType → Braces → Decl
  func_decl : Spot → Placed → MaybeGroups → Groups → MaybeType → Braces → Decl

pub record File : Type 0 where
  pub spot : Spot
  pub package_name : Placed
  pub imports : List Import
  pub decls : List Decl
