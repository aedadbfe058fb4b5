-- What a form in memory keeps. This project's own.
use Rattle.std.specs.Prelude.{◌≡◌, ℕ, List}
use Rattle.ui_forms.specs.Form.{Form, imported}
use Rattle.ui_forms.specs.Size.{HasPaths, IsSmallForm}
use Rattle.ui_forms.specs.declared.part.Part.{Part}

-- the form of these parts
abbrev pub form_with : List ℕ → List ℕ → List Part → Form
form_with path name parts = record { path = path; name = name; parts = parts }

-- the paths of the imports are kept in order, each of them is valid, and the form is small
pub record IsKept (f : Form) (paths : List (List ℕ)) : Type 0 where
  pub ordered : paths ≡ imported f
  pub valid : HasPaths f
  pub small : IsSmallForm f
