-- What a statement is seen as, at each variant.
use Rattle.std.proofs.Common.{◌≡◌, List, map, Option, Some, None, ap, sym, ◌∙◌}
use Rattle.std.specs.Option.{option_map}
use Rattle.ui_base.specs.declared.value.Spot.{Spot}
use Rattle.ui_base.specs.declared.kind.BinOp.{BinOp}
use Rattle.ui_tree.specs.declared.part.Placed.{Placed}
use Rattle.ui_tree.specs.declared.expr.ExprTree.{ExprTree}
use Rattle.ui_tree.specs.declared.stmt.CommonTree.{CommonTree}
use Rattle.ui_tree.specs.declared.stmt.RangePlaces.{RangePlaces}
use Rattle.ui_tree.specs.declared.stmt.Block.{Block as BlockOf}
use Rattle.ui_tree.specs.declared.stmt.Clause.{Clause}
use Rattle.ui_tree.specs.declared.stmt.StmtTree.{StmtTree, fold-StmtTree, fold-roll-StmtTree}
use Rattle.ui_tree.specs.declared.stmt.StmtTree.TheVariants as v
use Rattle.ui_tree.specs.declared.stmt.StmtTree.TheOpen.{StmtTree-F}
use Rattle.ui_tree.specs.View.{view}
use Rattle.ui_tree.specs.Stmt.{Stmt, empty, common, block, alone, assign, op_assign, define, increment, decrement, returning, breaking, continuing, branch, loop, while_true, counting, ranging, switch}
use Rattle.ui_tree.specs.StmtView.{trees_view, maybe_trees, maybe_view, common_view, places_view, maybe_stmt, block_view, clause_with, clauses, stmt_layer, stmt_view}

abbrev whole : StmtTree → Stmt
whole = fold-StmtTree Stmt stmt_layer

pub view_Empty : stmt_view v.Empty ≡ empty
unfolding stmt_view
view_Empty = ap whole (sym v.rolls-Empty) ∙ fold-roll-StmtTree Stmt stmt_layer StmtTree-F.Empty

pub view_Common : (c : CommonTree) → stmt_view (v.Common c) ≡ common (common_view c)
unfolding stmt_view
view_Common c = ap whole (sym (v.rolls-Common c)) ∙ fold-roll-StmtTree Stmt stmt_layer (StmtTree-F.Common c)

pub view_Block : (b : BlockOf StmtTree) → stmt_view (v.Block b) ≡ block (block_view b)
unfolding stmt_view
view_Block b = ap whole (sym (v.rolls-Block b)) ∙ fold-roll-StmtTree Stmt stmt_layer (StmtTree-F.Block b)

pub view_Expr : (e : ExprTree) → stmt_view (v.Expr e) ≡ alone (view e)
unfolding stmt_view
view_Expr e = ap whole (sym (v.rolls-Expr e)) ∙ fold-roll-StmtTree Stmt stmt_layer (StmtTree-F.Expr e)

pub view_Assign : (s : Spot) (l r : List ExprTree) → stmt_view (v.Assign s l r) ≡ assign s (trees_view l) (trees_view r)
unfolding stmt_view
view_Assign s l r = ap whole (sym (v.rolls-Assign s l r)) ∙ fold-roll-StmtTree Stmt stmt_layer (StmtTree-F.Assign s l r)

pub view_OpAssign : (s : Spot) (l : ExprTree) (op : BinOp) (r : ExprTree) → stmt_view (v.OpAssign s l op r) ≡ op_assign s (view l) op (view r)
unfolding stmt_view
view_OpAssign s l op r = ap whole (sym (v.rolls-OpAssign s l op r)) ∙ fold-roll-StmtTree Stmt stmt_layer (StmtTree-F.OpAssign s l op r)

pub view_Define : (s : Spot) (ns : List Placed) (r : List ExprTree) → stmt_view (v.Define s ns r) ≡ define s ns (trees_view r)
unfolding stmt_view
view_Define s ns r = ap whole (sym (v.rolls-Define s ns r)) ∙ fold-roll-StmtTree Stmt stmt_layer (StmtTree-F.Define s ns r)

pub view_Increment : (s : Spot) (e : ExprTree) → stmt_view (v.Increment s e) ≡ increment s (view e)
unfolding stmt_view
view_Increment s e = ap whole (sym (v.rolls-Increment s e)) ∙ fold-roll-StmtTree Stmt stmt_layer (StmtTree-F.Increment s e)

pub view_Decrement : (s : Spot) (e : ExprTree) → stmt_view (v.Decrement s e) ≡ decrement s (view e)
unfolding stmt_view
view_Decrement s e = ap whole (sym (v.rolls-Decrement s e)) ∙ fold-roll-StmtTree Stmt stmt_layer (StmtTree-F.Decrement s e)

pub view_Return : (s : Spot) (es : Option (List ExprTree)) → stmt_view (v.Return s es) ≡ returning s (maybe_trees es)
unfolding stmt_view
view_Return s es = ap whole (sym (v.rolls-Return s es)) ∙ fold-roll-StmtTree Stmt stmt_layer (StmtTree-F.Return s es)

pub view_Break : (s : Spot) → stmt_view (v.Break s) ≡ breaking s
unfolding stmt_view
view_Break s = ap whole (sym (v.rolls-Break s)) ∙ fold-roll-StmtTree Stmt stmt_layer (StmtTree-F.Break s)

pub view_Continue : (s : Spot) → stmt_view (v.Continue s) ≡ continuing s
unfolding stmt_view
view_Continue s = ap whole (sym (v.rolls-Continue s)) ∙ fold-roll-StmtTree Stmt stmt_layer (StmtTree-F.Continue s)

pub view_Loop : (s : Spot) (b : BlockOf StmtTree) → stmt_view (v.Loop s b) ≡ loop s (block_view b)
unfolding stmt_view
view_Loop s b = ap whole (sym (v.rolls-Loop s b)) ∙ fold-roll-StmtTree Stmt stmt_layer (StmtTree-F.Loop s b)

pub view_While : (s : Spot) (e : ExprTree) (b : BlockOf StmtTree) → stmt_view (v.While s e b) ≡ while_true s (view e) (block_view b)
unfolding stmt_view
view_While s e b = ap whole (sym (v.rolls-While s e b)) ∙ fold-roll-StmtTree Stmt stmt_layer (StmtTree-F.While s e b)

pub view_For : (s : Spot) (i : StmtTree) (e : Option ExprTree) (p : StmtTree) (b : BlockOf StmtTree) → stmt_view (v.For s i e p b) ≡ counting s (stmt_view i) (maybe_view e) (stmt_view p) (block_view b)
unfolding stmt_view
view_For s i e p b = ap whole (sym (v.rolls-For s i e p b)) ∙ fold-roll-StmtTree Stmt stmt_layer (StmtTree-F.For s i e p b)

pub view_Range : (s : Spot) (ps : Option RangePlaces) (e : ExprTree) (b : BlockOf StmtTree) → stmt_view (v.Range s ps e b) ≡ ranging s (places_view ps) (view e) (block_view b)
unfolding stmt_view
view_Range s ps e b = ap whole (sym (v.rolls-Range s ps e b)) ∙ fold-roll-StmtTree Stmt stmt_layer (StmtTree-F.Range s ps e b)

pub view_Switch : (s : Spot) (i : Option StmtTree) (e : Option ExprTree) (cs : List (Clause StmtTree)) → stmt_view (v.Switch s i e cs) ≡ switch s (maybe_stmt (option_map stmt_view i)) (maybe_view e) (clauses (map (clause_with stmt_view) cs))
unfolding stmt_view
view_Switch s None e cs = ap whole (sym (v.rolls-Switch s None e cs)) ∙ fold-roll-StmtTree Stmt stmt_layer (StmtTree-F.Switch s None e cs)
view_Switch s (Some i) e cs = ap whole (sym (v.rolls-Switch s (Some i) e cs)) ∙ fold-roll-StmtTree Stmt stmt_layer (StmtTree-F.Switch s (Some i) e cs)

pub view_If : (s : Spot) (i : Option StmtTree) (e : ExprTree) (b : BlockOf StmtTree) (o : Option StmtTree) → stmt_view (v.If s i e b o) ≡ branch s (maybe_stmt (option_map stmt_view i)) (view e) (block_view b) (maybe_stmt (option_map stmt_view o))
unfolding stmt_view
view_If s None e b None = ap whole (sym (v.rolls-If s None e b None)) ∙ fold-roll-StmtTree Stmt stmt_layer (StmtTree-F.If s None e b None)
view_If s None e b (Some o) = ap whole (sym (v.rolls-If s None e b (Some o))) ∙ fold-roll-StmtTree Stmt stmt_layer (StmtTree-F.If s None e b (Some o))
view_If s (Some i) e b None = ap whole (sym (v.rolls-If s (Some i) e b None)) ∙ fold-roll-StmtTree Stmt stmt_layer (StmtTree-F.If s (Some i) e b None)
view_If s (Some i) e b (Some o) = ap whole (sym (v.rolls-If s (Some i) e b (Some o))) ∙ fold-roll-StmtTree Stmt stmt_layer (StmtTree-F.If s (Some i) e b (Some o))
