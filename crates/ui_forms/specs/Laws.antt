-- What holds of every form, and of what its package exports. This project's own.
use Rattle.std.specs.Prelude.{◌≡◌, ℕ, List, map, Ok}
use Rattle.ui_exports.specs.Export.{Export}
use Rattle.ui_forms.specs.Form.{Form, Source, form_of, imported, imports_of}
use Rattle.ui_forms.specs.Size.{HasPaths, IsSmallExport, IsSmallForm}
use Rattle.ui_forms.specs.Verdict.{Environment, verdict}

-- a form has its package's path
abbrev pub PathIsKept : Type 0
PathIsKept = (path : List ℕ) (size : ℕ) (sources : List Source) (f : Form) → form_of path size sources ≡ Ok f → f.path ≡ path

-- a form imports what its sources do
abbrev pub ImportsAreFound : Type 0
ImportsAreFound = (path : List ℕ) (size : ℕ) (sources : List Source) (f : Form) → form_of path size sources ≡ Ok f → imported f ≡ imports_of (map (λ s. s.tree) sources)

-- the paths that a form imports are valid
abbrev pub PathsAreValid : Type 0
PathsAreValid = (path : List ℕ) (size : ℕ) (sources : List Source) (f : Form) → form_of path size sources ≡ Ok f → HasPaths f

-- a form is small
abbrev pub FormsAreSmall : Type 0
FormsAreSmall = (path : List ℕ) (size : ℕ) (sources : List Source) (f : Form) → form_of path size sources ≡ Ok f → IsSmallForm f

-- what a package of a small form exports is small
abbrev pub ExportsAreSmall : Type 0
ExportsAreSmall = (e : Environment) (f : Form) (export : Export) → IsSmallForm f → verdict e f ≡ Ok export → IsSmallExport export

-- what a package exports has its path
abbrev pub ExportHasPath : Type 0
ExportHasPath = (e : Environment) (f : Form) (export : Export) → verdict e f ≡ Ok export → export.path ≡ f.path
