-- What the names of a package and of its files' imports mean, each bound in its turn. Go
-- specification, "Declarations and scope".
use Rattle.std.specs.Prelude.{ℕ, List, Option, Some, None, bytes_eq, if◌then◌else◌}
use Rattle.std.specs.List.{fold}
use Rattle.ui_types.specs.Decls.{Packages}
use Rattle.ui_tree.specs.declared.part.Specs.{Specs}
use Rattle.ui_tree.specs.declared.part.Specs.TheVariants.{One, Grouped}
use Rattle.ui_tree.specs.Stmt.{Imported, File}
use Rattle.ui_scopes.specs.declared.scope.Meaning.{Meaning}
use Rattle.ui_scopes.specs.declared.scope.Meaning.TheVariants.{Object, Package}
use Rattle.ui_collect.specs.Names.{Names, is_blank}
use Rattle.ui_collect.specs.Package.{known_as}

-- what each name means
abbrev pub Meanings : Type 0
Meanings = List ℕ → Option Meaning

abbrev pub no_meaning : Meanings
no_meaning n = None

abbrev pub bound : Meanings → List ℕ → Meaning → Meanings
bound found name m n = if bytes_eq n name then Some m else found n

abbrev pub with_object : List ℕ → Meanings → List ℕ → Meanings
with_object path found name = bound found name (Object (record { path = path; name = name }))

-- the names of a package of this path
unfoldable pub package_names : List ℕ → Names → Meanings
package_names path names = fold (with_object path) no_meaning names

abbrev pub with_known : Meanings → List ℕ → List ℕ → Meanings
with_known found name path = if is_blank name then found else bound found name (Package path)

-- an import's name is that of the package of its path
abbrev pub with_import : Packages → Meanings → Imported → Meanings
with_import names found i = with_known found (known_as names i.name i.path).text i.path.text

abbrev pub with_specs : Packages → Meanings → Specs Imported → Meanings
with_specs names found (One i) = with_import names found i
with_specs names found (Grouped is) = fold (with_import names) found is

-- the names of a file's imports
unfoldable pub file_names : Packages → File → Meanings
file_names names f = fold (λ found i. with_specs names found i.specs) no_meaning f.imports
