-- How declarations are printed. This project's own.
use Rattle.std.specs.Prelude.{ℕ, List, [], ◌∷◌, ◌++◌, map, if◌then◌else◌, codes}
use Rattle.std.specs.List.{flat_map}
use Rattle.ui_base.specs.declared.name.Name.{Name}
use Rattle.ui_types.specs.Ty.{Ty}
use Rattle.ui_types.specs.Decls.{TParamTree, MethodTree, FaceTree, alias, constant, variable, function, defined}
use Rattle.ui_show.specs.Pieces.{qualified, selected, value_text}
use Rattle.ui_show.specs.Types.{in_brackets, type_text, sig_text}

abbrev pub param_names : List TParamTree → List (List ℕ)
param_names ps = map (λ p. p.name) ps

-- a type parameter with its constraint
abbrev pub param_text : List (List ℕ) → TParamTree → List ℕ
param_text names p = p.name ++ codes " " ++ type_text names p.bound

-- type arguments where there are some, and else type parameters
abbrev pub brackets : List (List ℕ) → List Ty → List TParamTree → List ℕ
brackets names [] ps = in_brackets (map (param_text names) ps)
brackets names (a ∷ args) ps = in_brackets (map (type_text names) (a ∷ args))

-- the line of a method
abbrev pub method_line : List (List ℕ) → MethodTree → List ℕ
method_line names m =
    codes "\n\t" ++ (if m.pointer then codes "(*) " else []) ++ selected m.name ++ sig_text names m.sig

abbrev pub decl_text : Name → List Ty → FaceTree → List ℕ
decl_text n args (alias t) = codes "type " ++ qualified n ++ codes " = " ++ type_text [] t
decl_text n args (constant t v) =
    codes "const " ++ qualified n ++ codes " " ++ type_text [] t ++ codes " = " ++ value_text v
decl_text n args (variable t) = codes "var " ++ qualified n ++ codes " " ++ type_text [] t
decl_text n args (function ps t) =
    codes "func " ++ qualified n ++ brackets (param_names ps) args ps ++ sig_text (param_names ps) t
decl_text n args (defined ps t ms) =
    codes "type " ++ qualified n ++ brackets (param_names ps) args ps ++ codes " "
    ++ type_text (param_names ps) t ++ flat_map (method_line (param_names ps)) ms
