-- Imports that aren't used. Go specification, "Import declarations": it is illegal to import a
-- package without referring to any of its exported identifiers, unless it is for its side effects
-- alone. A package is referred to by the name that its import has in the file. Files go in their
-- order, and each from left to right.
use Rattle.std.specs.Prelude.{ℕ, ◌||◌, List, [], Ok, if◌then◌else◌}
use Rattle.ui_base.specs.declared.fault.FaultKind.TheVariants as fault
use Rattle.ui_types.specs.Decls.{Packages}
use Rattle.ui_tree.specs.declared.part.Specs.{Specs}
use Rattle.ui_tree.specs.declared.part.Specs.TheVariants.{One, Grouped}
use Rattle.ui_tree.specs.Stmt.{Imported, Import}
use Rattle.ui_scopes.specs.Steps.{Checks}
use Rattle.ui_collect.specs.Names.{Names, is_among, is_blank, refuse_name, steps}
use Rattle.ui_collect.specs.Package.{SourceTree, known_as}
use Rattle.ui_used.specs.Mentions.{in_file, each_once}

-- a file, the names of packages by their paths, and the names that the file mentions
pub record Uses : Type 0 where
  pub file : List ℕ
  pub names : Packages
  pub mentioned : Names

-- the import's name is blank, or it is mentioned
abbrev pub spec_rule : Uses → Unit {0} → Imported → Checks (Unit {0})
spec_rule at u i =
    if is_blank (known_as at.names i.name i.path).text || is_among at.mentioned (known_as at.names
    i.name i.path).text then Ok tt
    else refuse_name at.file i.path.spot fault.UnusedImport i.path.text

abbrev pub specs_rule : Uses → Specs Imported → Checks (Unit {0})
specs_rule at (One s) = spec_rule at tt s
specs_rule at (Grouped ss) = steps (spec_rule at) tt ss

abbrev pub import_rule : Uses → Unit {0} → Import → Checks (Unit {0})
import_rule at u i = specs_rule at i.specs

abbrev pub uses : Packages → SourceTree → Uses
uses names s = record {
  file = s.name;
  names = names;
  mentioned = each_once (in_file
      s.tree);
}

abbrev pub file_rule : Packages → Unit {0} → SourceTree → Checks (Unit {0})
file_rule names u s = steps (import_rule (uses names s)) tt s.tree.imports

-- the first import that isn't used, if there is one
unfoldable pub imports_used : Packages → List SourceTree → Checks (Unit {0})
imports_used names files = steps (file_rule names) tt files
