-- What the code has read, as its readers give it.
use Rattle.std.specs.Prelude.{ℕ, List, map}
use Rattle.ui_tree.specs.declared.part.Group.{Group}
use Rattle.ui_tree.specs.declared.part.Sig.{Sig}
use Rattle.ui_tree.specs.declared.expr.TypeExpr.{TypeExpr}
use Rattle.ui_tree.specs.declared.decl.ImportSpec.{ImportSpec}
use Rattle.ui_tree.specs.Tree.{TypeTree}
use Rattle.ui_tree.specs.Stmt.{Imported, File}
use Rattle.ui_tree.specs.View.{type_view, group_with}
use Rattle.ui_tree.specs.StmtView.{maybe_type_view, import_view, decl_view}
use Rattle.ui_parse.specs.Reader.{Ending}
use Rattle.ui_stmts.specs.Decls as decls
use Rattle.ui_stmts.specs.Decls.{Signature}
use Rattle.ui_psimple.specs.declared.deep.Deep.{Deep}
use Rattle.ui_pdecl.specs.declared.type_params.TypeParams.{TypeParams}
use Rattle.ui_pdecl.specs.declared.files.FileBody.{FileBody}

abbrev pub import_spec_view : ImportSpec → Imported
import_spec_view s = record { name = s.name; path = s.path }

abbrev pub groups_seen : List (Group TypeExpr) → List (Group TypeTree)
groups_seen = map (group_with type_view)

abbrev pub see_type_params : TypeParams → decls.TypeParams
see_type_params s = record { groups = map (group_with type_view) s.groups; waiting = s.waiting; depth = s.depth }

abbrev pub type_params_ending : Ending TypeParams
type_params_ending = record { may = λ s. decls.type_params_ending.may (see_type_params s); must = λ s. decls.type_params_ending.must (see_type_params s) }

abbrev pub see_signature : (room : ℕ) → Deep (Sig TypeExpr) → Signature room
see_signature room s = record { params = map (group_with type_view) s.of.params; of = maybe_type_view s.of.results; depth = s.depth }

abbrev pub see_file : FileBody → File
see_file f = record { spot = f.spot; package_name = f.«package»; imports = map import_view f.imports; decls = map decl_view f.decls }
