-- What a container has, as lines of text. This project's own.
use Rattle.std.specs.Prelude.{ℕ, suc, List, [], ◌∷◌, ◌++◌, length, codes, decimal}
use Rattle.std.specs.List.{flat_map, sum_by}
use Rattle.hex.specs.Hex.{encode_lower}
use Rattle.ui_frame.specs.Container.{Parts, section, fingerprint}
use Rattle.ui_frame.specs.declared.section.Section.{Section}
use Rattle.ui_frame.specs.declared.section.Section.TheVariants as sections

abbrev pub section_name : Section → List ℕ
section_name sections.Str = codes "String"
section_name sections.Meta = codes "Meta"
section_name sections.PosBase = codes "PosBase"
section_name sections.Pkg = codes "Pkg"
section_name sections.Name = codes "Name"
section_name sections.Types = codes "Type"
section_name sections.Obj = codes "Obj"
section_name sections.ObjExt = codes "ObjExt"
section_name sections.ObjDict = codes "ObjDict"
section_name sections.Body = codes "Body"

abbrev pub pair_line : List ℕ → ℕ → ℕ → List ℕ
pair_line label one other = label ++ decimal one ++ codes " " ++ decimal other ++ codes "\n"

-- an element's number and length
abbrev pub element_line : ℕ → List ℕ → List ℕ
element_line k bytes = pair_line (codes "  ") k (length bytes)

abbrev pub lines_from : ℕ → List (List ℕ) → List ℕ
lines_from k [] = []
lines_from k (b ∷ bs) = element_line k b ++ lines_from (suc k) bs

-- a section's name, the number of its elements and that of their bytes
abbrev pub section_head : Parts → Section → List ℕ
section_head parts s = section_name s ++ pair_line (codes " ") (length (section s parts)) (sum_by length (section s parts))

abbrev pub section_lines : Parts → Section → List ℕ
section_lines parts s = section_head parts s ++ lines_from 0 (section s parts)

abbrev pub all_sections : List Section
all_sections =
    sections.Str ∷ sections.Meta ∷ sections.PosBase ∷ sections.Pkg ∷ sections.Name ∷ sections.Types ∷ sections.Obj ∷ sections.ObjExt
    ∷ sections.ObjDict ∷ sections.Body ∷ []

abbrev pub last_line : Parts → List ℕ
last_line parts = codes "fingerprint " ++ encode_lower (fingerprint parts) ++ codes "\n"

unfoldable pub listing : Parts → List ℕ
listing parts = codes "version 1 flags 0\n" ++ flat_map (section_lines parts) all_sections ++ last_line parts
