-- Declarations stay valid as the table grows.
use Rattle.std.specs.Prelude.{List}
use Rattle.ui_base.specs.declared.name.Name.{Name}
use Rattle.ui_types.specs.declared.decl.Decl.{Decl}
use Rattle.ui_types.specs.Table.{Table, Grows}
use Rattle.ui_types.specs.Decls.{AreDecls}
use Rattle.ui_types.specs.Stays.{decls_stay}
use Rattle.ui_types.specs.Trees.{growth}

pub AreDecls-grows : {t u : Table} (ds : List (Name × Decl)) → Grows t u → AreDecls t ds
    → AreDecls u ds
AreDecls-grows {t} {u} ds g h = (decls_stay t u ds g h).0

pub ruleset declaring = (growth, AreDecls-grows)
