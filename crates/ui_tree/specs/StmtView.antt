-- The plain trees that the code's statements, declarations and files stand for.
use Rattle.std.specs.Prelude.{Bool, List, [], ◌∷◌, map, Option, Some, None}
use Rattle.std.specs.Option.{option_map}
use Rattle.ui_tree.specs.declared.part.Placed.{Placed}
use Rattle.ui_tree.specs.declared.part.Specs.{Specs}
use Rattle.ui_tree.specs.declared.part.Specs.TheVariants.{One, Grouped}
use Rattle.ui_tree.specs.declared.part.Group.{Group}
use Rattle.ui_tree.specs.declared.expr.TypeExpr.{TypeExpr}
use Rattle.ui_tree.specs.declared.expr.ExprTree.{ExprTree}
use Rattle.ui_tree.specs.declared.stmt.ValueSpec.{ValueSpec}
use Rattle.ui_tree.specs.declared.stmt.CommonTree.{CommonTree}
use Rattle.ui_tree.specs.declared.stmt.CommonTree.TheVariants.{Const, Var}
use Rattle.ui_tree.specs.declared.stmt.RangePlaces.{RangePlaces}
use Rattle.ui_tree.specs.declared.stmt.Block.{Block as BlockOf}
use Rattle.ui_tree.specs.declared.stmt.Clause.{Clause}
use Rattle.ui_tree.specs.declared.stmt.StmtTree.{StmtTree, fold-StmtTree}
use Rattle.ui_tree.specs.declared.stmt.StmtTree.TheOpen.{StmtTree-F}
use Rattle.ui_tree.specs.declared.decl.ImportSpec.{ImportSpec}
use Rattle.ui_tree.specs.declared.decl.ImportTree.{ImportTree}
use Rattle.ui_tree.specs.declared.decl.TypeSpec.{TypeSpec}
use Rattle.ui_tree.specs.declared.decl.Receiver.{Receiver}
use Rattle.ui_tree.specs.declared.decl.DeclTree.{DeclTree}
use Rattle.ui_tree.specs.declared.decl.DeclTree.TheVariants as d
use Rattle.ui_tree.specs.declared.decl.FileTree.{FileTree}
use Rattle.ui_tree.specs.Tree.{MaybeType, Groups, MaybeTree, Trees}
use Rattle.ui_tree.specs.View.{kept, view, type_view, trees, maybe, maybe_type, groups, group_with}
use Rattle.ui_tree.specs.Stmt.{MaybeTrees, no_trees, given_trees, ValueGroup, Common, constants, variables, Places, no_places, places, Stmt, empty, common, block, alone, assign, op_assign, define, increment, decrement, returning, breaking, continuing, branch, loop, while_true, counting, ranging, switch, MaybeStmt, no_stmt, given_stmt, Braces, braces, Stmts, stmts_end, stmt_and, Clauses, clauses_end, clause_and, Imported, Import, TypeGroup, Recv, MaybeGroups, no_groups, given_groups, Decl, common_decl, type_decl, method_decl, func_decl, File}

abbrev pub trees_view : List ExprTree → Trees
trees_view es = trees (map view es)

abbrev pub maybe_trees : Option (List ExprTree) → MaybeTrees
maybe_trees None = no_trees
maybe_trees (Some es) = given_trees (trees_view es)

abbrev pub maybe_view : Option ExprTree → MaybeTree
maybe_view e = maybe (option_map view e)

abbrev pub maybe_type_view : Option TypeExpr → MaybeType
maybe_type_view t = maybe_type (option_map type_view t)

abbrev pub groups_view : List (Group TypeExpr) → Groups
groups_view gs = groups kept (map (group_with type_view) gs)

abbrev pub specs_with : {A B : Type 0} → (A → B) → Specs A → Specs B
specs_with f (One s) = One (f s)
specs_with f (Grouped ss) = Grouped (map f ss)

abbrev pub value_view : ValueSpec → ValueGroup
value_view v = record { names = v.names; of = maybe_type_view v.of; values = maybe_trees v.values }

abbrev pub common_view : CommonTree → Common
common_view (Const s vs) = constants s (specs_with value_view vs)
common_view (Var s vs) = variables s (specs_with value_view vs)

abbrev pub places_view : Option RangePlaces → Places
places_view None = no_places
places_view (Some p) = places (trees_view p.places) p.define

abbrev pub stmts : List Stmt → Stmts
stmts [] = stmts_end
stmts (s ∷ ss) = stmt_and s (stmts ss)

abbrev pub maybe_stmt : Option Stmt → MaybeStmt
maybe_stmt None = no_stmt
maybe_stmt (Some s) = given_stmt s

abbrev pub braces_of : BlockOf Stmt → Braces
braces_of b = braces b.spot (stmts b.stmts) b.close

abbrev pub clause_with : {A B : Type 0} → (A → B) → Clause A → Clause B
clause_with f c = record { spot = c.spot; values = c.values; stmts = map f c.stmts }

abbrev pub clauses : List (Clause Stmt) → Clauses
clauses [] = clauses_end
clauses (c ∷ cs) = clause_and c.spot (maybe_trees c.values) (stmts c.stmts) (clauses cs)

abbrev pub stmt_layer : StmtTree-F Stmt → Stmt
stmt_layer StmtTree-F.Empty = empty
stmt_layer (StmtTree-F.Common c) = common (common_view c)
stmt_layer (StmtTree-F.Block b) = block (braces_of b)
stmt_layer (StmtTree-F.Expr e) = alone (view e)
stmt_layer (StmtTree-F.Assign s l r) = assign s (trees_view l) (trees_view r)
stmt_layer (StmtTree-F.OpAssign s l op r) = op_assign s (view l) op (view r)
stmt_layer (StmtTree-F.Define s ns r) = define s ns (trees_view r)
stmt_layer (StmtTree-F.Increment s e) = increment s (view e)
stmt_layer (StmtTree-F.Decrement s e) = decrement s (view e)
stmt_layer (StmtTree-F.Return s es) = returning s (maybe_trees es)
stmt_layer (StmtTree-F.Break s) = breaking s
stmt_layer (StmtTree-F.Continue s) = continuing s
stmt_layer (StmtTree-F.If s init e body other) = branch s (maybe_stmt init) (view e) (braces_of body) (maybe_stmt other)
stmt_layer (StmtTree-F.Loop s body) = loop s (braces_of body)
stmt_layer (StmtTree-F.While s e body) = while_true s (view e) (braces_of body)
stmt_layer (StmtTree-F.For s init e post body) = counting s init (maybe_view e) post (braces_of body)
stmt_layer (StmtTree-F.Range s ps e body) = ranging s (places_view ps) (view e) (braces_of body)
stmt_layer (StmtTree-F.Switch s init e cs) = switch s (maybe_stmt init) (maybe_view e) (clauses cs)

unfoldable pub stmt_view : StmtTree → Stmt
stmt_view = fold-StmtTree Stmt stmt_layer

abbrev pub block_view : BlockOf StmtTree → Braces
block_view b = braces b.spot (stmts (map stmt_view b.stmts)) b.close

abbrev pub import_view : ImportTree → Import
import_view i = record { spot = i.spot; specs = specs_with (λ s. record { name = s.name; path = s.path }) i.specs }

abbrev pub type_spec_view : TypeSpec → TypeGroup
type_spec_view t = record { name = t.name; params = groups_view t.params; alias = t.alias; of = type_view t.of }

abbrev pub receiver_view : Receiver → Recv
receiver_view r = record { spot = r.spot; name = r.name; pointer = r.pointer; of = r.of; params = r.params }

abbrev pub maybe_groups : Option (List (Group TypeExpr)) → MaybeGroups
maybe_groups None = no_groups
maybe_groups (Some gs) = given_groups (groups_view gs)

abbrev pub decl_view : DeclTree → Decl
decl_view (d.Common c) = common_decl (common_view c)
decl_view (d.Type s ts) = type_decl s (specs_with type_spec_view ts)
decl_view (d.Method s r n sig body) = method_decl s (receiver_view r) n (groups_view sig.params) (maybe_type_view sig.results) (block_view body)
decl_view (d.Func s n ps sig body) = func_decl s n (maybe_groups ps) (groups_view sig.params) (maybe_type_view sig.results) (block_view body)

-- all of a file's tree but the file's name
abbrev pub file_view : FileTree → File
file_view f = record { spot = f.spot; package_name = f.«package»; imports = map import_view f.imports; decls = map decl_view f.decls }
