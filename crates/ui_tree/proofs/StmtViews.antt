-- What a statement stands for, at each variant.
use Rattle.std.proofs.Common.{◌≡◌, Bool, List, map, Option, Some, None, ap, sym, ◌∙◌}
use Rattle.std.specs.Option.{option_map}
use Rattle.ui_base.specs.declared.value.Spot.{Spot}
use Rattle.ui_base.specs.declared.kind.BinOp.{BinOp}
use Rattle.ui_tree.specs.declared.part.Placed.{Placed}
use Rattle.ui_tree.specs.declared.expr.ExprTree.{ExprTree}
use Rattle.ui_tree.specs.declared.stmt.CommonTree.{CommonTree}
use Rattle.ui_tree.specs.declared.stmt.RangePlaces.{RangePlaces}
use Rattle.ui_tree.specs.declared.stmt.Block.{Block as BlockOf}
use Rattle.ui_tree.specs.declared.stmt.Clause.{Clause}
use Rattle.ui_tree.specs.declared.stmt.StmtTree.{StmtTree, fold-StmtTree, fold-roll-StmtTree}
use Rattle.ui_tree.specs.declared.stmt.StmtTree.TheVariants as sv
use Rattle.ui_tree.specs.declared.stmt.StmtTree.TheOpen.{StmtTree-F}
use Rattle.ui_tree.specs.View.{view}
use Rattle.ui_tree.specs.Stmt.{Stmt, empty, common, block, alone, assign, op_assign, define, increment, decrement, returning, breaking, continuing, branch, loop, while_true, counting, ranging, switch}
use Rattle.ui_tree.specs.StmtView.{stmt_view, stmt_layer, trees_view, maybe_view, maybe_trees, common_view, places_view, maybe_stmt, block_view, clauses, clause_with}

pub view_Empty : stmt_view sv.Empty ≡ empty
unfolding stmt_view
view_Empty = ap (fold-StmtTree Stmt stmt_layer) (sym sv.rolls-Empty) ∙ fold-roll-StmtTree Stmt stmt_layer StmtTree-F.Empty

pub view_Common : (c : CommonTree) → stmt_view (sv.Common c) ≡ common (common_view c)
unfolding stmt_view
view_Common c = ap (fold-StmtTree Stmt stmt_layer) (sym (sv.rolls-Common c)) ∙ fold-roll-StmtTree Stmt stmt_layer (StmtTree-F.Common c)

pub view_Block : (b : BlockOf StmtTree) → stmt_view (sv.Block b) ≡ block (block_view b)
unfolding stmt_view
view_Block b = ap (fold-StmtTree Stmt stmt_layer) (sym (sv.rolls-Block b)) ∙ fold-roll-StmtTree Stmt stmt_layer (StmtTree-F.Block b)

pub view_Expr : (e : ExprTree) → stmt_view (sv.Expr e) ≡ alone (view e)
unfolding stmt_view
view_Expr e = ap (fold-StmtTree Stmt stmt_layer) (sym (sv.rolls-Expr e)) ∙ fold-roll-StmtTree Stmt stmt_layer (StmtTree-F.Expr e)

pub view_Assign : (s : Spot) (l r : List ExprTree) → stmt_view (sv.Assign s l r) ≡ assign s (trees_view l) (trees_view r)
unfolding stmt_view
view_Assign s l r = ap (fold-StmtTree Stmt stmt_layer) (sym (sv.rolls-Assign s l r)) ∙ fold-roll-StmtTree Stmt stmt_layer (StmtTree-F.Assign s l r)

pub view_OpAssign : (s : Spot) (l : ExprTree) (op : BinOp) (r : ExprTree) → stmt_view (sv.OpAssign s l op r) ≡ op_assign s (view l) op (view r)
unfolding stmt_view
view_OpAssign s l op r = ap (fold-StmtTree Stmt stmt_layer) (sym (sv.rolls-OpAssign s l op r)) ∙ fold-roll-StmtTree Stmt stmt_layer (StmtTree-F.OpAssign s l op r)

pub view_Define : (s : Spot) (ns : List Placed) (r : List ExprTree) → stmt_view (sv.Define s ns r) ≡ define s ns (trees_view r)
unfolding stmt_view
view_Define s ns r = ap (fold-StmtTree Stmt stmt_layer) (sym (sv.rolls-Define s ns r)) ∙ fold-roll-StmtTree Stmt stmt_layer (StmtTree-F.Define s ns r)

pub view_Increment : (s : Spot) (e : ExprTree) → stmt_view (sv.Increment s e) ≡ increment s (view e)
unfolding stmt_view
view_Increment s e = ap (fold-StmtTree Stmt stmt_layer) (sym (sv.rolls-Increment s e)) ∙ fold-roll-StmtTree Stmt stmt_layer (StmtTree-F.Increment s e)

pub view_Decrement : (s : Spot) (e : ExprTree) → stmt_view (sv.Decrement s e) ≡ decrement s (view e)
unfolding stmt_view
view_Decrement s e = ap (fold-StmtTree Stmt stmt_layer) (sym (sv.rolls-Decrement s e)) ∙ fold-roll-StmtTree Stmt stmt_layer (StmtTree-F.Decrement s e)

pub view_Return : (s : Spot) (es : Option (List ExprTree)) → stmt_view (sv.Return s es) ≡ returning s (maybe_trees es)
unfolding stmt_view
view_Return s es = ap (fold-StmtTree Stmt stmt_layer) (sym (sv.rolls-Return s es)) ∙ fold-roll-StmtTree Stmt stmt_layer (StmtTree-F.Return s es)

pub view_Break : (s : Spot) → stmt_view (sv.Break s) ≡ breaking s
unfolding stmt_view
view_Break s = ap (fold-StmtTree Stmt stmt_layer) (sym (sv.rolls-Break s)) ∙ fold-roll-StmtTree Stmt stmt_layer (StmtTree-F.Break s)

pub view_Continue : (s : Spot) → stmt_view (sv.Continue s) ≡ continuing s
unfolding stmt_view
view_Continue s = ap (fold-StmtTree Stmt stmt_layer) (sym (sv.rolls-Continue s)) ∙ fold-roll-StmtTree Stmt stmt_layer (StmtTree-F.Continue s)

pub view_If : (s : Spot) (init : Option StmtTree) (e : ExprTree) (body : BlockOf StmtTree) (other : Option StmtTree) → stmt_view (sv.If s init e body other) ≡ branch s (maybe_stmt (option_map stmt_view init)) (view e) (block_view body) (maybe_stmt (option_map stmt_view other))
unfolding stmt_view
view_If s None e body None = ap (fold-StmtTree Stmt stmt_layer) (sym (sv.rolls-If s None e body None)) ∙ fold-roll-StmtTree Stmt stmt_layer (StmtTree-F.If s None e body None)
view_If s None e body (Some other) = ap (fold-StmtTree Stmt stmt_layer) (sym (sv.rolls-If s None e body (Some other))) ∙ fold-roll-StmtTree Stmt stmt_layer (StmtTree-F.If s None e body (Some other))
view_If s (Some init) e body None = ap (fold-StmtTree Stmt stmt_layer) (sym (sv.rolls-If s (Some init) e body None)) ∙ fold-roll-StmtTree Stmt stmt_layer (StmtTree-F.If s (Some init) e body None)
view_If s (Some init) e body (Some other) = ap (fold-StmtTree Stmt stmt_layer) (sym (sv.rolls-If s (Some init) e body (Some other))) ∙ fold-roll-StmtTree Stmt stmt_layer (StmtTree-F.If s (Some init) e body (Some other))

pub view_Loop : (s : Spot) (body : BlockOf StmtTree) → stmt_view (sv.Loop s body) ≡ loop s (block_view body)
unfolding stmt_view
view_Loop s body = ap (fold-StmtTree Stmt stmt_layer) (sym (sv.rolls-Loop s body)) ∙ fold-roll-StmtTree Stmt stmt_layer (StmtTree-F.Loop s body)

pub view_While : (s : Spot) (e : ExprTree) (body : BlockOf StmtTree) → stmt_view (sv.While s e body) ≡ while_true s (view e) (block_view body)
unfolding stmt_view
view_While s e body = ap (fold-StmtTree Stmt stmt_layer) (sym (sv.rolls-While s e body)) ∙ fold-roll-StmtTree Stmt stmt_layer (StmtTree-F.While s e body)

pub view_For : (s : Spot) (init : StmtTree) (e : Option ExprTree) (post : StmtTree) (body : BlockOf StmtTree) → stmt_view (sv.For s init e post body) ≡ counting s (stmt_view init) (maybe_view e) (stmt_view post) (block_view body)
unfolding stmt_view
view_For s init e post body = ap (fold-StmtTree Stmt stmt_layer) (sym (sv.rolls-For s init e post body)) ∙ fold-roll-StmtTree Stmt stmt_layer (StmtTree-F.For s init e post body)

pub view_Range : (s : Spot) (ps : Option RangePlaces) (e : ExprTree) (body : BlockOf StmtTree) → stmt_view (sv.Range s ps e body) ≡ ranging s (places_view ps) (view e) (block_view body)
unfolding stmt_view
view_Range s ps e body = ap (fold-StmtTree Stmt stmt_layer) (sym (sv.rolls-Range s ps e body)) ∙ fold-roll-StmtTree Stmt stmt_layer (StmtTree-F.Range s ps e body)

pub view_Switch : (s : Spot) (init : Option StmtTree) (e : Option ExprTree) (cs : List (Clause StmtTree)) → stmt_view (sv.Switch s init e cs) ≡ switch s (maybe_stmt (option_map stmt_view init)) (maybe_view e) (clauses (map (clause_with stmt_view) cs))
unfolding stmt_view
view_Switch s None e cs = ap (fold-StmtTree Stmt stmt_layer) (sym (sv.rolls-Switch s None e cs)) ∙ fold-roll-StmtTree Stmt stmt_layer (StmtTree-F.Switch s None e cs)
view_Switch s (Some init) e cs = ap (fold-StmtTree Stmt stmt_layer) (sym (sv.rolls-Switch s (Some init) e cs)) ∙ fold-roll-StmtTree Stmt stmt_layer (StmtTree-F.Switch s (Some init) e cs)
