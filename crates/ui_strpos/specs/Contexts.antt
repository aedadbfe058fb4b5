-- What an element is read over, of a container.
use Rattle.std.specs.Prelude.{◌≡◌, ℕ, [], map, length}
use Rattle.std.proofs.Common.{get_or}
use Rattle.std.proofs.Math.ListN.{get_or-map}
use Rattle.ui_frame.specs.Container.{Parts, section}
use Rattle.ui_frame.specs.Sections.{number_of}
use Rattle.ui_frame.specs.declared.section.Section.{Section}
use Rattle.ui_frame.specs.declared.section.Section.TheVariants.{Str}
use Rattle.ui_strpos.specs.declared.shape.Shape.{Shape}
use Rattle.ui_strpos.specs.Reading.{Context}

-- the element's own number, its shape, the numbers of elements by section and the String elements
abbrev pub context : ℕ → Shape → Parts → Context
context own shape parts = record { own = own; shape = shape; counts = map length parts; texts = section Str parts }

pub count_is : (parts : Parts) (s : Section) → get_or (map length parts) (number_of s) 0 ≡ length (section s parts)
count_is parts s = get_or-map length parts (number_of s) []

pub text_count : (parts : Parts) → get_or (map length parts) 0 0 ≡ length (section Str parts)
text_count parts = count_is parts Str
