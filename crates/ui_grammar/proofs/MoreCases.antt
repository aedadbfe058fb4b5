-- Short statements, declarations and files with their trees, and what the rules on places say of some trees.
use Rattle.std.proofs.Common.{◌≡◌, ℕ, true, false, List, [], ◌∷◌, refl, inl, inr, codes, pos, lit≤}
use Rattle.std.specs.Prelude.{None}
use Rattle.ui_base.specs.declared.value.Spot.{Spot}
use Rattle.ui_base.specs.declared.value.Value.TheVariants as value
use Rattle.ui_base.specs.declared.kind.BinOp.TheVariants.{Equal as Equals}
use Rattle.ui_scan.specs.declared.kind.TokenKind.{TokenKind}
use Rattle.ui_scan.specs.declared.kind.TokenKind.TheVariants as k
use Rattle.ui_tree.specs.declared.part.Placed.{Placed}
use Rattle.ui_tree.specs.declared.part.LiteralKind.TheVariants.{Whole}
use Rattle.ui_tree.specs.declared.part.Specs.TheVariants.{One}
use Rattle.ui_tree.specs.Tree.{TypeTree, named, pointer, slice, func, listed, interface, union, no_args, types_end, type_and, groups_end, group_and, no_type, given_type, Tree, literal, name, binary, trees_end, tree_and, type_arg}
use Rattle.ui_tree.specs.Stmt.{given_trees, Stmt, branch, increment, decrement, block, braces, stmts_end, stmt_and, no_stmt, constants, common_decl, File}
use Rattle.ui_grammar.specs.Word.{Word, ident, lit, mark}
use Rattle.ui_grammar.specs.Both.{is_expression, is_length}
use Rattle.ui_grammar.specs.Fits.{argument, plain_type, Fits, FitsType}
use Rattle.ui_grammar.specs.Statement.{SpellsStmt}
use Rattle.ui_grammar.specs.Parse.{HasFile, depth_limit}

abbrev at : ℕ → Spot
at col = record { line = 1; col = col }

abbrev placed : ℕ → List ℕ → Placed
placed col text = record { spot = at col; text = text }

abbrev id : ℕ → List ℕ → Word
id col text = ident (placed col text)

abbrev m : TokenKind → ℕ → Word
m kind col = mark kind (at col)

abbrev var : ℕ → List ℕ → Tree
var col text = name (placed col text)

abbrev type_name : ℕ → List ℕ → TypeTree
type_name col text = named (placed col text) None no_args

-- ---- statements

-- { a++; b-- }: the last semicolon is left out
pub block_has_tree : SpellsStmt (block (braces (at 1) (stmt_and (increment (at 3) (var 3 (codes "a"))) (stmt_and (decrement (at 8) (var 8 (codes "b"))) stmts_end)) (at 12)))
    (m k.LBrace 1 ∷ id 3 (codes "a") ∷ m k.Inc 4 ∷ m k.Semi 6 ∷ id 8 (codes "b") ∷ m k.Dec 9 ∷ m k.RBrace 12 ∷ []) []
block_has_tree = (
  _,
  _,
  refl,
  (
    _,
    _,
    (_, refl, refl, record { spot = at 4; is = refl }),
    inl (record { spot = at 6; is = refl }),
    (_, _, (_, refl, refl, record { spot = at 9; is = refl }), inr (refl, (_, record { spot = at 12; is = refl })), refl),
  ),
  refl,
)

-- if x == T { }: the braces are the block's
abbrev test : Stmt
test = branch (at 1) no_stmt (binary (at 4) Equals (var 4 (codes "x")) (var 9 (codes "T"))) (braces (at 11) stmts_end (at 12)) no_stmt

pub test_has_tree : SpellsStmt test (m k.If 1 ∷ id 4 (codes "x") ∷ m k.Equal 6 ∷ id 9 (codes "T") ∷ m k.LBrace 11 ∷ m k.RBrace 12 ∷ []) []
test_has_tree = (_, _, _, _, refl, refl, (_, _, refl, refl, record { spot = at 6; is = refl }, refl), (_, _, refl, refl, refl), refl)

-- ---- a file: package p; const N = 1;

abbrev file : File
file = record {
  spot = at 1;
  package_name = placed 9 (codes "p");
  imports = [];
  decls = common_decl (constants (at 12) (One (record { names = placed 18 (codes "N") ∷ []; of = no_type; values = given_trees (tree_and (literal (at 22) Whole (value.Whole (pos 1))) trees_end) }))) ∷ [];
}

pub file_has_tree : HasFile depth_limit
    (m k.Package 1 ∷ id 9 (codes "p") ∷ m k.Semi 10 ∷ m k.Const 12 ∷ id 18 (codes "N") ∷ m k.Assign 20 ∷ lit Whole (at 22) (value.Whole (pos 1)) ∷ m k.Semi 23 ∷ m k.End 24 ∷ []) file
file_has_tree = record {
  end = at 24;
  spells = (
    _,
    _,
    _,
    _,
    refl,
    refl,
    record { spot = at 10; is = refl },
    refl,
    (_, _, (_, refl, (_, (_, refl, refl), (_, _, refl, record { spot = at 20; is = refl }, (_, refl, refl)))), record { spot = at 23; is = refl }, refl),
  );
  fits = ((tt, (tt, tt)), tt);
  shallow = lit≤ tt;
}

-- ---- expressions before types

-- func(A)(B) is a type alone, with the result B
pub signature_is_none : is_expression (func (at 1) (group_and [] (type_name 6 (codes "A")) groups_end) (given_type (listed (at 8) (group_and [] (type_name 9 (codes "B")) groups_end)))) ≡ false
signature_is_none = refl

pub slice_is_none : is_expression (slice (at 1) (type_name 3 (codes "T"))) ≡ false
slice_is_none = refl

-- *T is no type where an argument stands
pub pointer_is_no_type_argument : Fits (type_arg (pointer (at 1) (type_name 2 (codes "T")))) argument → ⊥
pointer_is_no_type_argument h = let e = h.1 in cc

-- ---- N *P in brackets is a length, N interface{} a parameter

pub product_is_length : is_length (group_and (placed 1 (codes "N") ∷ []) (union (at 3) (type_and (pointer (at 3) (type_name 4 (codes "P"))) types_end)) groups_end) ≡ true
product_is_length = refl

pub bound_is_no_length : is_length (group_and (placed 1 (codes "N") ∷ []) (union (at 3) (type_and (interface (at 3) types_end) types_end)) groups_end) ≡ false
bound_is_no_length = refl

-- ---- named and bare parameters don't mix

pub parameters_do_not_mix : FitsType (func (at 1) (group_and [] (type_name 6 (codes "A")) (group_and (placed 9 (codes "b") ∷ []) (type_name 11 (codes "B")) groups_end)) no_type) plain_type → ⊥
parameters_do_not_mix h = let e = h.1 in cc
