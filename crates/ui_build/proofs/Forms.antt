-- What a package's sources import by their trees, and by their form.
use Rattle.std.proofs.Common.{◌≡◌, ◌∙◌, ap, sym, refl, ℕ, true, List, [], ◌∷◌, ◌++◌, map, Result, Ok, Err}
use Rattle.std.specs.List.{AllByRecursion}
use Rattle.ui_base.specs.Paths.{is_path}
use Rattle.ui_base.specs.declared.value.Pos.{Pos}
use Rattle.ui_base.specs.declared.fault.Fault.{Fault}
use Rattle.ui_tree.specs.declared.part.Specs.{Specs}
use Rattle.ui_tree.specs.declared.part.Specs.TheVariants.{One, Grouped}
use Rattle.ui_tree.specs.declared.decl.FileTree.{FileTree}
use Rattle.ui_tree.specs.Stmt.{Imported, Import}
use Rattle.ui_tree.specs.StmtView.{file_view}
use Rattle.ui_sources.specs.Sources.{HasValidPaths, SourceFile, SourceTree, Trees, source_tree, specs_of, trees_of}
use Rattle.ui_forms.specs.Form as forms
use Rattle.ui_forms.specs.Form.{Form as SourceForm, file_paths, form_of, import_paths, imported, imports_of, spec_paths}
use Rattle.ui_forms.specs.Laws.{ImportsAreFound}
use Rattle.ui_build.specs.Plan.{Text, Refusal}
use Rattle.ui_build.specs.Package.{form_by, form_or, imports_by_trees, imports_in, in_form, or_form}

-- ---- trees in memory

-- the trees of a form's sources are those that were read
pub sources_seen : (fs : List FileTree) → map in_form (map source_tree fs) ≡ map forms.source_of fs
sources_seen [] = refl
sources_seen (f ∷ fs) = ap (λ ss. forms.source_of f ∷ ss) (sources_seen fs)

pub form_seen : (path : Text) (size : ℕ) (fs : List FileTree) (r : Result SourceForm Pos) → form_of path size (map forms.source_of fs) ≡ r → form_of path size (map in_form (map source_tree fs)) ≡ r
form_seen path size fs r e = ap (form_of path size) (sources_seen fs) ∙ e

trees_seen : (fs : List FileTree) → map (λ (s : SourceTree). s.tree) (map source_tree fs) ≡ map file_view fs
trees_seen [] = refl
trees_seen (f ∷ fs) = ap (λ ts. file_view f ∷ ts) (trees_seen fs)

pub imports_seen : (fs : List FileTree) → imports_of (map (λ (s : SourceTree). s.tree) (map source_tree fs)) ≡ imports_of (map file_view fs)
imports_seen fs = ap imports_of (trees_seen fs)

-- ---- paths

abbrev AreValid : List Text → Type 0
AreValid paths = AllByRecursion (λ path. is_path path ≡ true) paths

pub all_append : {X : Type 0} (P : X → Type 0) (xs ys : List X) → AllByRecursion P xs → AllByRecursion P ys → AllByRecursion P (xs ++ ys)
all_append P [] ys h k = k
all_append P (x ∷ xs) ys h k = (h.0, all_append P xs ys h.1 k)

group_valid : (is : List Imported) → AllByRecursion (λ i. is_path i.path.text ≡ true) is → AreValid (map (λ (i : Imported). i.path.text) is)
group_valid [] h = tt
group_valid (i ∷ is) h = (h.0, group_valid is h.1)

specs_valid : (specs : Specs Imported) → AllByRecursion (λ i. is_path i.path.text ≡ true) (specs_of specs) → AreValid (spec_paths specs)
specs_valid (One i) h = (h.0, tt)
specs_valid (Grouped is) h = group_valid is h

imports_valid : (is : List Import) → AllByRecursion (λ (i : Import). AllByRecursion (λ (s : Imported). is_path s.path.text ≡ true) (specs_of i.specs)) is → AreValid (import_paths is)
imports_valid [] h = tt
imports_valid (i ∷ is) h = all_append (λ path. is_path path ≡ true) (spec_paths i.specs) (import_paths is) (specs_valid i.specs h.0) (imports_valid is h.1)

-- the paths that trees import are valid
pub paths_valid : (fs : List FileTree) → AllByRecursion (λ (s : SourceTree). HasValidPaths s.tree) (map source_tree fs) → AreValid (file_paths (map file_view fs))
paths_valid [] h = tt
paths_valid (f ∷ fs) h = all_append (λ path. is_path path ≡ true) (import_paths (file_view f).imports) (file_paths (map file_view fs)) (imports_valid (file_view f).imports h.0) (paths_valid fs h.1)

-- ---- imports by a form

trees_mapped : (files : List SourceTree) → map (λ (s : forms.Source). s.tree) (map in_form files) ≡ map (λ (s : SourceTree). s.tree) files
trees_mapped [] = refl
trees_mapped (f ∷ fs) = ap (λ ts. f.tree ∷ ts) (trees_mapped fs)

form_is : (x f : SourceForm) → ◌≡◌ {A = Result SourceForm Refusal} (Ok x) (Ok f) → x ≡ f
form_is x f e = cc

formed : (r : Result SourceForm Pos) (f : SourceForm) → or_form r ≡ Ok f → r ≡ Ok f
formed (Ok x) f e = ap Ok (form_is x f e)
formed (Err pos) f e = absurd cc

by_trees : ImportsAreFound → (path : Text) (r : Result Trees Fault) (f : SourceForm) → form_by path r ≡ Ok f → imports_by_trees r ≡ imported f
by_trees found path (Ok t) f e = sym (found path t.size (map in_form t.files) f (formed (form_of path t.size (map in_form t.files)) f e) ∙ ap imports_of (trees_mapped t.files))
by_trees found path (Err fault) f e = absurd cc

-- a form imports what the sources do
pub form_imports : ImportsAreFound → (path : Text) (sources : List SourceFile) (f : SourceForm) → form_or path sources ≡ Ok f → imports_in path sources ≡ imported f
unfolding form_or
form_imports found path [] f e = absurd cc
form_imports found path (source ∷ sources) f e = by_trees found path (trees_of path (source ∷ sources)) f e
