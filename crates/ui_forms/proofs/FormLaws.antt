-- What holds of forms.
use Rattle.std.proofs.Common.{◌≡◌, ℕ, ◌-◌, ◌≤◌, true, not, ◌&&◌, List, [], ◌∷◌, ◌++◌, map, length, Ok, sym, ap, ◌∙◌, subst, arith}
use Rattle.std.specs.Prelude.{nat_le, bytes_eq, codes}
use Rattle.std.specs.List.{AllByRecursion, list_all, suffix_len}
use Rattle.std.proofs.lemmas.List.{length-drop}
use Rattle.std.proofs.lemmas.Bool.{and_parts, leb-true}
use Rattle.std.proofs.lemmas.Slice.Eq.{bytes_eq-Decides}
use Rattle.ui_base.specs.declared.value.Pos.{Pos}
use Rattle.ui_base.specs.Names.{is_keyword, is_name}
use Rattle.ui_base.specs.Paths.{is_path, is_reserved, has_segments}
use Rattle.ui_forms.specs.Words.{is_ascii_name, is_package_name, is_slash, last_segment}
use Rattle.ui_base.specs.Steps.{and_then}
use Rattle.ui_forms.specs.Form.{Form, Source, are_distinct, ascending, decl_count, file_paths, form_of, form_of_parts, front, has_few_decls, has_sources, imported, imports_of, is_package, is_source, part_paths, parts_of}
use Rattle.ui_forms.specs.Size.{HasPath, HasPaths, IsSmallForm, IsSmallPart}
use Rattle.ui_forms.specs.Laws.{FormsAreSmall, ImportsAreFound, PathIsKept, PathsAreValid}
use Rattle.ui_forms.specs.declared.part.ImportPath.{ImportPath}
use Rattle.ui_forms.specs.declared.part.Part.{Part}
use Rattle.ui_forms.proofs.Naming.{ascii_name}
use Rattle.ui_forms.proofs.PartLaws.{chosen, ok_is, parts_taken, then_ok}
use Rattle.ui_forms.proofs.SetLemmas.{ascending-all}

-- ---- sources of a package

pub record IsOfPackage (path : List ℕ) (sources : List Source) : Type 0 where
  pub valid : is_path path ≡ true
  pub few : decl_count sources ≤ 4096
  pub each : list_all (is_source path) sources ≡ true

pub of_package : (path : List ℕ) (size : ℕ) (sources : List Source) → is_package path size sources ≡ true → IsOfPackage path sources
of_package path size sources e =
    let a = and_parts ((is_path path && nat_le size 4096) && has_few_decls sources) (list_all (is_source path) sources) e in
    let b = and_parts (is_path path && nat_le size 4096) (has_few_decls sources) a.0 in
    let c = and_parts (is_path path) (nat_le size 4096) b.0 in
    record { valid = c.0; few = leb-true (decl_count sources) 4096 b.1; each = a.1 }

-- a valid path isn't too long
pub path_fits : (path : List ℕ) → is_path path ≡ true → length path ≤ 255
unfolding is_path
path_fits path is = leb-true (length path) 255 (and_parts (nat_le (length path) 255) (not (is_reserved path)) (and_parts (nat_le (length path) 255 && not (is_reserved path)) (has_segments path) is).0).0

package_name : (path name : List ℕ) → is_package_name path name ≡ true → is_name (last_segment path) ≡ true
package_name path name e =
    let a = and_parts ((bytes_eq name (last_segment path) && is_ascii_name name) && not (bytes_eq name (codes "_"))) (not (is_keyword name)) e in
    let b = and_parts (bytes_eq name (last_segment path) && is_ascii_name name) (not (bytes_eq name (codes "_"))) a.0 in
    let c = and_parts (bytes_eq name (last_segment path)) (is_ascii_name name) b.0 in
    let P : List ℕ → Type 0 = λ x. is_name x ≡ true in
    subst P ((bytes_eq-Decides name (last_segment path)).0 c.0) (ascii_name name c.1 a.1)

named_by : (path : List ℕ) (sources : List Source) → has_sources sources ≡ true → list_all (is_source path) sources ≡ true → is_name (last_segment path) ≡ true
named_by path [] some each = absurd cc
named_by path (source ∷ sources) some each =
    let s = and_parts (is_source path source) (list_all (is_source path) sources) each in
    package_name path source.tree.package_name.text (and_parts (nat_le 1 (length source.name) && nat_le (length source.name) 255) (is_package_name path source.tree.package_name.text) s.0).1

-- ---- a form of sources

pub record IsFormOf (path : List ℕ) (sources : List Source) (f : Form) : Type 0 where
  pub some : has_sources sources ≡ true
  pub of : IsOfPackage path sources
  pub parts : parts_of path sources ≡ Ok f.parts
  pub form : record { path = path; name = last_segment path; parts = f.parts } ≡ f

pub is_form : (path : List ℕ) (size : ℕ) (sources : List Source) (f : Form) → form_of path size sources ≡ Ok f → IsFormOf path sources f
unfolding form_of
is_form path size sources f e =
    let a = chosen (has_sources sources && is_package path size sources) (and_then (form_of_parts path (front sources)) (parts_of path sources)) (front sources) f e in
    let b = and_parts (has_sources sources) (is_package path size sources) a.0 in
    let c = then_ok (form_of_parts path (front sources)) (parts_of path sources) f a.1 in
    let d = chosen (are_distinct c.0) (Ok (record { path = path; name = last_segment path; parts = c.0 })) (front sources) f c.2 in
    let same : record { path = path; name = last_segment path; parts = c.0 } ≡ f = ok_is {E = Pos} _ f d.1 in
    record {
      some = b.0;
      of = of_package path size sources b.1;
      parts = c.1 ∙ ap (λ (x : Form). Ok x.parts) same;
      form = ap (λ (x : Form). let y : Form = record { path = path; name = last_segment path; parts = x.parts } in y) (sym same) ∙ same;
    }

pub path-kept : PathIsKept
path-kept path size sources f e = sym (ap (λ (x : Form). x.path) (is_form path size sources f e).form)

-- ---- imports

part_valid : (is : List ImportPath) (rest : List (List ℕ)) → AllByRecursion HasPath is → AllByRecursion (λ p. is_path p ≡ true) rest → AllByRecursion (λ p. is_path p ≡ true) (map (λ i. i.path) is ++ rest)
part_valid [] rest h k = k
part_valid (i ∷ is) rest h k = (h.0, part_valid is rest h.1 k)

paths_valid : (ps : List Part) → AllByRecursion IsSmallPart ps → AllByRecursion (λ p. is_path p ≡ true) (part_paths ps)
paths_valid [] h = tt
paths_valid (p ∷ ps) h = part_valid p.imports (part_paths ps) h.0.imports (paths_valid ps h.1)

-- the paths that sources import are valid where these are taken
pub found_valid : (path : List ℕ) (sources : List Source) (ps : List Part) → list_all (is_source path) sources ≡ true → parts_of path sources ≡ Ok ps → AllByRecursion (λ p. is_path p ≡ true) (file_paths (map (λ s. s.tree) sources))
found_valid path sources ps each e = let t = parts_taken path sources ps each e in subst (AllByRecursion (λ p. is_path p ≡ true)) t.paths (paths_valid ps t.small)

pub found : (path : List ℕ) (sources : List Source) (f : Form) → list_all (is_source path) sources ≡ true → parts_of path sources ≡ Ok f.parts → imported f ≡ imports_of (map (λ s. s.tree) sources)
unfolding imported imports_of
found path sources f each e = ap ascending (parts_taken path sources f.parts each e).paths

pub imports-found : ImportsAreFound
imports-found path size sources f e = let i = is_form path size sources f e in found path sources f i.of.each i.parts

pub form_valid : (f : Form) → AllByRecursion IsSmallPart f.parts → HasPaths f
unfolding imported
form_valid f h = ascending-all (λ p. is_path p ≡ true) (part_paths f.parts) (paths_valid f.parts h)

pub paths-valid : PathsAreValid
paths-valid path size sources f e = let i = is_form path size sources f e in form_valid f (parts_taken path sources f.parts i.of.each i.parts).small

-- ---- sizes

pub form_small : (path : List ℕ) (sources : List Source) (ps : List Part) → has_sources sources ≡ true → IsOfPackage path sources → parts_of path sources ≡ Ok ps → IsSmallForm (record { path = path; name = last_segment path; parts = ps })
form_small path sources ps some of e =
    let t = parts_taken path sources ps of.each e in
    record {
      is_path = of.valid;
      is_name = named_by path sources some of.each;
      path = path_fits path of.valid;
      name = omega (arith, path_fits path of.valid, length-drop (length path - suffix_len (λ b. not (is_slash b)) path) path);
      few = omega (arith, t.count, of.few);
      parts = t.small;
    }

pub forms-small : FormsAreSmall
forms-small path size sources f e = let i = is_form path size sources f e in subst IsSmallForm i.form (form_small path sources f.parts i.some i.of i.parts)
