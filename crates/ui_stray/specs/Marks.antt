-- Which elements are marked.
use Rattle.std.specs.Prelude.{◌≡◌, ℕ, ◌<◌, List, Bool, true, false, length, get_or}
use Rattle.ui_frame.specs.Container.{Parts, section}
use Rattle.ui_frame.specs.declared.section.Section.{Section}
use Rattle.ui_file.specs.declared.file.File.{File}
use Rattle.ui_file.specs.Rules.{IsReached}
use Rattle.ui_stray.specs.Links.{number_in}

-- those that the roots reach
pub record AreReached (parts : Parts) (x : File) (marks : List Bool) : Type 0 where
  pub only : (s : Section) (k : ℕ) → k < length (section s parts)
      → get_or marks (number_in parts s k) false ≡ true → IsReached x s k
  pub all : (s : Section) (k : ℕ) → IsReached x s k → get_or marks (number_in parts s k) false
      ≡ true
