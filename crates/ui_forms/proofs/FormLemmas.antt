-- The form of sources, step by step.
use Rattle.std.proofs.Common.{◌≡◌, ℕ, true, false, cond, ◌&&◌, List, [], ◌∷◌, map, Some, None, Result, Ok, Err, refl, sym, ap, subst, ◌∙◌}
use Rattle.std.specs.Prelude.{slice_get}
use Rattle.std.specs.List.{AllByRecursion}
use Rattle.std.specs.FinMap.{empty, keys}
use Rattle.ui_base.specs.declared.value.Spot.{Spot}
use Rattle.ui_base.specs.declared.value.Pos.{Pos}
use Rattle.ui_base.specs.Paths.{is_path}
use Rattle.ui_tree.specs.declared.decl.DeclTree.{DeclTree}
use Rattle.ui_tree.specs.declared.decl.ImportTree.{ImportTree}
use Rattle.ui_tree.specs.declared.decl.FileTree.{FileTree}
use Rattle.ui_tree.specs.Stmt.{File}
use Rattle.ui_tree.specs.StmtView.{decl_view, file_view, import_view}
use Rattle.ui_forms.specs.Words.{last_segment}
use Rattle.ui_forms.specs.Numbers.{Numbered, has}
use Rattle.ui_base.specs.Steps.{and_then, each}
use Rattle.ui_forms.specs.Sums.{nothing}
use Rattle.ui_forms.specs.Form.{Form, Source, are_distinct, constants_of, file_paths, form_of, form_of_parts, front, has_sources, import_of, imports_of, is_among, is_package, part_of, part_with, parts_of, segments, set_with, source_of}
use Rattle.ui_forms.specs.Choosing.{GivesForm, GivesPart, IsNotTaken, IsSet}
use Rattle.ui_forms.specs.Kept.{IsKept, form_with}
use Rattle.ui_forms.specs.declared.part.ImportPath.{ImportPath}
use Rattle.ui_forms.specs.declared.part.ConstantSum.{ConstantSum}
use Rattle.ui_forms.specs.declared.part.Part.{Part}
use Rattle.ui_forms.specs.declared.fault.PartFault.{PartFault}
use Rattle.ui_forms.specs.declared.fault.PartFault.TheVariants as part
use Rattle.ui_forms.specs.declared.fault.FormFault.{FormFault}
use Rattle.ui_forms.specs.declared.fault.FormFault.TheVariants.{NotTaken, NoMemory}
use Rattle.ui_forms.proofs.NumberLemmas.{has-set}
use Rattle.ui_forms.proofs.FormLaws.{form_small, form_valid, found, found_valid, of_package}
use Rattle.ui_forms.proofs.PartLaws.{parts_taken}

-- the paths that files import
pub found_as : (texts : List (List ℕ)) (m : Numbered) (files : List File) → texts ≡ keys m → m ≡ set_with empty (file_paths files) → texts ≡ imports_of files
unfolding imports_of
found_as texts m files listed made = listed ∙ ap keys made

-- ---- a source

pub part_sums : (own : List ℕ) (file : FileTree) (is : List ImportTree) (ds : List DeclTree) (imports imports' : List ImportPath) (m : Numbered) → is ≡ file.imports → each (import_of own) (map import_view is) ≡ Ok imports → imports' ≡ imports → IsSet m (segments imports') → ds ≡ file.decls → part_of own (source_of file) ≡ part_with file.file imports (constants_of (has m) nothing (map decl_view ds))
part_sums own file is ds imports imports' m these taken again set those =
    ap (and_then (λ xs. part_with file.file xs (constants_of (is_among (segments xs)) nothing (map decl_view file.decls)))) (ap (λ xs. each (import_of own) (map import_view xs)) (sym these) ∙ taken)
    ∙ ap (λ xs. part_with file.file imports (constants_of (is_among (segments xs)) nothing (map decl_view file.decls))) (sym again)
    ∙ ap (λ k. part_with file.file imports (constants_of k nothing (map decl_view file.decls))) (sym (has-set m (segments imports') set))
    ∙ ap (λ xs. part_with file.file imports (constants_of (has m) nothing (map decl_view xs))) (sym those)

pub sums_stop : (file : List ℕ) (imports : List ImportPath) (v : Result Part Spot) (sums : Result (List ConstantSum) Spot) (e : PartFault) → v ≡ part_with file imports sums → GivesPart sums (Err e) → GivesPart v (Err e)
sums_stop file imports v sums (part.NotTaken s) is g = is ∙ ap (part_with file imports) g
sums_stop file imports v sums part.NoMemory is g = tt

-- ---- a package

pub refused : {A : Type 0} (v : Result A Pos) (pos : Pos) (e : FormFault) → v ≡ Err pos → IsNotTaken pos e → GivesForm v (Err e)
refused v pos (NotTaken p) is at = is ∙ ap Err (sym at)
refused v pos NoMemory is at = tt

trees_of : (files : List FileTree) → map (λ s. s.tree) (map source_of files) ≡ map file_view files
trees_of [] = refl
trees_of (f ∷ fs) = ap (λ ts. file_view f ∷ ts) (trees_of fs)

pub form_found : (path : List ℕ) (size : ℕ) (files : List FileTree) (ps : List Part) → is_package path size (map source_of files) ≡ true → parts_of path (map source_of files) ≡ Ok ps → AllByRecursion (λ p. is_path p ≡ true) (file_paths (map file_view files))
form_found path size files ps are taken = subst (λ fs. AllByRecursion (λ p. is_path p ≡ true) (file_paths fs)) (trees_of files) (found_valid path (map source_of files) ps (of_package path size (map source_of files) are).each taken)

-- a form in memory
pub form_kept : (path p n : List ℕ) (size : ℕ) (files : List FileTree) (ps : List Part) (paths : List (List ℕ)) → has_sources (map source_of files) ≡ true → is_package path size (map source_of files) ≡ true → parts_of path (map source_of files) ≡ Ok ps → p ≡ path → n ≡ last_segment path → paths ≡ imports_of (map file_view files) → IsKept (form_with p n ps) paths
form_kept path p n size files ps paths some are taken is_path is_name listed =
    let of = of_package path size (map source_of files) are in
    let f : Form = form_with path (last_segment path) ps in
    let same : f ≡ form_with p n ps = λ i. form_with (sym is_path i) (sym is_name i) ps in
    subst (λ x. IsKept x paths) same
    (record {
      ordered = listed ∙ ap imports_of (sym (trees_of files)) ∙ sym (found path (map source_of files) f of.each taken);
      valid = form_valid f (parts_taken path (map source_of files) ps of.each taken).small;
      small = form_small path (map source_of files) ps some of taken;
    })

-- ---- the first source

pub record HasFirst (files : List FileTree) (first : FileTree) : Type 0 where
  pub some : has_sources (map source_of files) ≡ true
  pub front : front (map source_of files) ≡ record { file = first.file; line = 1; col = 1 }

pub has_first : (files : List FileTree) (first : FileTree) → slice_get files 0 ≡ Some first → HasFirst files first
has_first [] first e = absurd cc
has_first (f ∷ fs) first e = record { some = refl; front = ap (λ (x : FileTree). record { file = x.file; line = 1; col = 1 }) (some_is f first e) }
  where
    some_is : (a b : FileTree) → Some a ≡ Some b → a ≡ b
    some_is a b h = cc

pub form-none : (path : List ℕ) (size : ℕ) (files : List FileTree) → slice_get files 0 ≡ None → form_of path size (map source_of files) ≡ Err (record { file = []; line = 1; col = 1 })
unfolding form_of
form-none path size [] e = refl
form-none path size (f ∷ fs) e = absurd cc

module _ (path : List ℕ) (size : ℕ) (sources : List Source) (some : has_sources sources ≡ true) where
  pub form-other : is_package path size sources ≡ false → form_of path size sources ≡ Err (front sources)
  unfolding form_of
  form-other other = ap (λ b. cond (b && is_package path size sources) (and_then (form_of_parts path (front sources)) (parts_of path sources)) (Err (front sources))) some ∙ ap (λ b. cond b (and_then (form_of_parts path (front sources)) (parts_of path sources)) (Err (front sources))) other

  form-parts : is_package path size sources ≡ true → form_of path size sources ≡ and_then (form_of_parts path (front sources)) (parts_of path sources)
  unfolding form_of
  form-parts are = ap (λ b. cond (b && is_package path size sources) (and_then (form_of_parts path (front sources)) (parts_of path sources)) (Err (front sources))) some ∙ ap (λ b. cond b (and_then (form_of_parts path (front sources)) (parts_of path sources)) (Err (front sources))) are

  pub form-stops : (e : FormFault) → is_package path size sources ≡ true → GivesForm (parts_of path sources) (Err e) → GivesForm (form_of path size sources) (Err e)
  form-stops (NotTaken p) are g = form-parts are ∙ ap (and_then (form_of_parts path (front sources))) g
  form-stops NoMemory are g = tt

  at_parts : (ps : List Part) → is_package path size sources ≡ true → parts_of path sources ≡ Ok ps → form_of path size sources ≡ form_of_parts path (front sources) ps
  at_parts ps are taken = form-parts are ∙ ap (and_then (form_of_parts path (front sources))) taken

  pub form-repeated : (ps : List Part) → is_package path size sources ≡ true → parts_of path sources ≡ Ok ps → are_distinct ps ≡ false → form_of path size sources ≡ Err (front sources)
  form-repeated ps are taken repeated = at_parts ps are taken ∙ ap (λ b. cond b (Ok (form_with path (last_segment path) ps)) (Err (front sources))) repeated

  pub form-taken : (ps : List Part) (f : Form) → is_package path size sources ≡ true → parts_of path sources ≡ Ok ps → are_distinct ps ≡ true → f ≡ form_with path (last_segment path) ps → form_of path size sources ≡ Ok f
  form-taken ps f are taken distinct is = at_parts ps are taken ∙ ap (λ b. cond b (Ok (form_with path (last_segment path) ps)) (Err (front sources))) distinct ∙ ap Ok (sym is)
