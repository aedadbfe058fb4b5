-- The answers to queries, by what a package declares.
use Rattle.std.specs.Prelude.{ℕ, Bool, true, false, List, ◌++◌, take, drop, flat_map, Option, Some, None, option_map, codes, bytes_eq, decimal, if◌then◌else◌}
use Rattle.std.specs.List.{list_all}
use Rattle.std.specs.FinMap.{get}
use Rattle.ui_exports.specs.Export.{Export}
use Rattle.ui_forms.specs.Words.{is_ascii_name}
use Rattle.ui_build.specs.Plan.{Text}

-- a name, where it is one
abbrev pub named : Text → Option Text
named name = if is_ascii_name name then Some name else None

-- the name that a query `decl NAME` asks for
unfoldable pub asked_name : Text → Option Text
asked_name query = if bytes_eq (take 5 query) (codes "decl ") then named (drop 5 query) else None

-- the text of a constant
abbrev pub show : Text → Text → ℕ → Text
show path name value = codes "const " ++ path ++ codes "." ++ name ++ codes " untyped int = " ++ decimal value ++ codes "\n"

abbrev pub no_such : Text → Text → Text
no_such path name = codes "refused: NoSuch " ++ path ++ codes "." ++ name ++ codes "\n"

-- an answer: its text, and whether it is none of the refusals
abbrev pub Answer : Type 0
Answer = Text × Bool

abbrev pub answer_about : Text → Text → Option ℕ → Answer
answer_about path name (Some value) = (show path name value, true)
answer_about path name None = (no_such path name, false)

-- the value of a constant
abbrev pub value_of : Export → Text → Option ℕ
value_of export name = option_map (λ d. d.value) (get export.decls name)

abbrev pub answer_named : Export → Option Text → Answer
answer_named export (Some name) = answer_about export.path name (value_of export name)
answer_named export None = (codes "refused: Form\n", false)

unfoldable pub answer : Export → Text → Answer
answer export query = answer_named export (asked_name query)

abbrev pub answers : Export → List Text → Text
answers export queries = flat_map (λ query. (answer export query).0) queries

abbrev pub are_answered : Export → List Text → Bool
are_answered export queries = list_all (λ query. (answer export query).1) queries
