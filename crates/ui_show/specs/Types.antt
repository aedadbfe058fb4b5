-- How types are printed. This project's own; it follows the Go specification's spelling of types.
use Rattle.std.specs.Prelude.{ℕ, Bool, true, false, List, [], ◌∷◌, ◌++◌, if◌then◌else◌, codes, decimal, slice_index_or}
use Rattle.ui_base.specs.declared.name.Name.{Name}
use Rattle.ui_types.specs.Ty.{Ty, Tys, basic, named, pointer, slice, array, map_of, func, struct, iface, union, param, no_types, types}
use Rattle.ui_types.specs.Decls.{name_eq, error_name}
use Rattle.ui_show.specs.Pieces.{basic_name, qualified, selected, joined}

-- a declared type's name; the predeclared `error` has no path
abbrev pub type_name : Name → List ℕ
type_name n = if name_eq n error_name then codes "error" else qualified n

-- type arguments
abbrev pub in_brackets : List (List ℕ) → List ℕ
in_brackets [] = []
in_brackets (x ∷ xs) = codes "[" ++ joined (codes ", ") (x ∷ xs) ++ codes "]"

-- the results of a function
abbrev pub results : List (List ℕ) → List ℕ
results [] = []
results (x ∷ []) = codes " " ++ x
results (x ∷ y ∷ xs) = codes " (" ++ joined (codes ", ") (x ∷ y ∷ xs) ++ codes ")"

-- its parameters and results
abbrev pub signature : List (List ℕ) → List (List ℕ) → List ℕ
signature ps rs = codes "(" ++ joined (codes ", ") ps ++ codes ")" ++ results rs

-- fields, each with its type
abbrev pub fields : List Name → List (List ℕ) → List (List ℕ)
fields [] ts = []
fields (n ∷ ns) [] = []
fields (n ∷ ns) (t ∷ ts) = (selected n ++ codes " " ++ t) ∷ fields ns ts

-- methods, each with its signature
abbrev pub methods : List Name → List (List ℕ) → List (List ℕ)
methods [] ts = []
methods (n ∷ ns) [] = []
methods (n ∷ ns) (t ∷ ts) = (selected n ++ t) ∷ methods ns ts

-- terms, each with its `~`
abbrev pub terms : List Bool → List (List ℕ) → List (List ℕ)
terms [] ts = []
terms (b ∷ bs) [] = []
terms (b ∷ bs) (t ∷ ts) = ((if b then codes "~" else []) ++ t) ∷ terms bs ts

abbrev pub comparable : Bool → List (List ℕ)
comparable c = if c then codes "comparable" ∷ [] else []

abbrev pub are_some : {X : Type 0} → List X → Bool
are_some [] = false
are_some (x ∷ xs) = true

-- types, where type parameters have these names
module _ (names : List (List ℕ)) where
  abbrev mutual
    pub type_text : Ty → List ℕ
    type_text (basic b) = basic_name b
    type_text (named n args) = type_name n ++ in_brackets (type_texts args)
    type_text (pointer t) = codes "*" ++ type_text t
    type_text (slice t) = codes "[]" ++ type_text t
    type_text (array len t) = codes "[" ++ decimal len ++ codes "]" ++ type_text t
    type_text (map_of k t) = codes "map[" ++ type_text k ++ codes "]" ++ type_text t
    type_text (func ps rs) = codes "func" ++ signature (type_texts ps) (type_texts rs)
    type_text (struct ns ts) =
        codes "struct{" ++ joined (codes "; ") (fields ns (type_texts ts)) ++ codes "}"
    type_text (iface ns ts c us) =
        codes "interface{"
        ++ joined (codes "; ") (methods ns (sig_texts ts) ++ comparable c ++ type_texts us)
        ++ codes "}"
    type_text (union bs ts) = joined (codes " | ") (terms bs (type_texts ts))
    type_text (param k) = slice_index_or names k []

    pub type_texts : Tys → List (List ℕ)
    type_texts no_types = []
    type_texts (types t ts) = type_text t ∷ type_texts ts

    -- a function's type without the word `func`; no other type has a signature
    pub sig_text : Ty → List ℕ
    sig_text (func ps rs) = signature (type_texts ps) (type_texts rs)
    sig_text _ = []

    pub sig_texts : Tys → List (List ℕ)
    sig_texts no_types = []
    sig_texts (types t ts) = sig_text t ∷ sig_texts ts
