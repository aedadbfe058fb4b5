-- What holds of the parts of sources that are taken.
use Rattle.std.proofs.Common.{◌≡◌, ℕ, ◌+◌, ◌^◌, ◌<◌, ◌≤◌, suc, Bool, true, false, cond, not, ◌&&◌, List, [], ◌∷◌, ◌++◌, map, length, Option, Some, None, Result, Ok, Err, refl, sym, ap, ◌∙◌, subst, arith}
use Rattle.std.specs.Prelude.{nat_le, nat_lt, nat_eq, bytes_eq}
use Rattle.std.specs.List.{AllByRecursion, list_all}
use Rattle.std.proofs.lemmas.List.{length-append}
use Rattle.std.proofs.lemmas.Bool.{and_parts, leb-true, ltb-true, not_from_false, ne_eqb}
use Rattle.ui_base.specs.declared.value.Spot.{Spot}
use Rattle.ui_base.specs.declared.value.Pos.{Pos}
use Rattle.ui_base.specs.Paths.{is_path}
use Rattle.ui_tree.specs.declared.part.Placed.{Placed}
use Rattle.ui_tree.specs.declared.part.Specs.{Specs}
use Rattle.ui_tree.specs.declared.part.Specs.TheVariants.{One, Grouped}
use Rattle.ui_tree.specs.Tree.{Tree, MaybeType, no_type, given_type}
use Rattle.ui_tree.specs.Stmt.{constants, variables, Imported, Import, Decl, common_decl, type_decl, method_decl, func_decl}
use Rattle.ui_forms.specs.Words.{is_constant_name, is_package_name}
use Rattle.ui_forms.specs.Spots.{is_count, is_place}
use Rattle.ui_base.specs.Steps.{and_then, each}
use Rattle.ui_forms.specs.Sums.{Known, nothing, with_name, terms_of}
use Rattle.ui_forms.specs.Form.{Source, at_file, constant_of, constant_of_parts, constants_of, decl_count, file_paths, import_of, import_of_path, import_of_spec, import_paths, is_among, is_declared_name, is_import_path, is_source, names, one_name, one_tree, part_of, part_paths, part_with, parts_of, segments, spec_paths}
use Rattle.ui_forms.specs.Size.{HasPath, IsSmallConstant, IsSmallPart}
use Rattle.ui_forms.specs.declared.part.Term.{Term}
use Rattle.ui_forms.specs.declared.part.ImportPath.{ImportPath}
use Rattle.ui_forms.specs.declared.part.ConstantSum.{ConstantSum}
use Rattle.ui_forms.specs.declared.part.Part.{Part}
use Rattle.ui_forms.proofs.Naming.{constant_name}

-- ---- what a step gave

pub ok_is : {X E : Type 0} (x y : X) → ◌≡◌ {A = Result X E} (Ok x) (Ok y) → x ≡ y
ok_is x y e = cc

pub some_is : {X : Type 0} (x y : X) → ◌≡◌ {A = Option X} (Some x) (Some y) → x ≡ y
some_is x y e = cc

pub then_ok : {A B E : Type 0} (step : A → Result B E) (r : Result A E) (y : B) → and_then step r ≡ Ok y → (x : A) × (r ≡ Ok x) × (step x ≡ Ok y)
then_ok step (Ok x) y e = (x, refl, e)
then_ok step (Err fault) y e = absurd cc

pub chosen : {A E : Type 0} (b : Bool) (r : Result A E) (fault : E) (x : A) → cond b r (Err fault) ≡ Ok x → (b ≡ true) × (r ≡ Ok x)
chosen true r fault x e = (refl, e)
chosen false r fault x e = absurd cc

-- ---- imports

-- an import that is taken has a valid path, the only one of its declaration
pub record IsTaken (paths : List (List ℕ)) (x : ImportPath) : Type 0 where
  pub valid : HasPath x
  pub only : paths ≡ x.path ∷ []

path_taken : (own : List ℕ) (p : Placed) (x : ImportPath) → import_of_path own p ≡ Ok x → IsTaken (p.text ∷ []) x
path_taken own p x e =
    let a = chosen (is_import_path own p.text) (Ok (record { path = p.text; spot = p.spot })) p.spot x e in
    let same : record { path = p.text; spot = p.spot } ≡ x = ok_is {E = Spot} _ x a.1 in
    subst (IsTaken (p.text ∷ [])) same (record { valid = (and_parts (is_path p.text) (not (bytes_eq p.text own)) a.0).0; only = refl })

spec_taken : (own : List ℕ) (s : Spot) (n : Option Placed) (p : Placed) (x : ImportPath) → import_of_spec own s n p ≡ Ok x → IsTaken (p.text ∷ []) x
spec_taken own s None p x e = path_taken own p x e
spec_taken own s (Some n) p x e = absurd cc

specs_taken : (own : List ℕ) (s : Spot) (specs : Specs Imported) (x : ImportPath) → import_of own (record { spot = s; specs = specs }) ≡ Ok x → IsTaken (spec_paths specs) x
specs_taken own s (One i) x e = spec_taken own s i.name i.path x e
specs_taken own s (Grouped is) x e = absurd cc

import_taken : (own : List ℕ) (i : Import) (x : ImportPath) → import_of own i ≡ Ok x → IsTaken (spec_paths i.specs) x
import_taken own i x e = specs_taken own i.spot i.specs x e

pub record AreTaken (is : List Import) (xs : List ImportPath) : Type 0 where
  pub valid : AllByRecursion HasPath xs
  pub same : map (λ x. x.path) xs ≡ import_paths is

pub imports_taken : (own : List ℕ) (is : List Import) (xs : List ImportPath) → each (import_of own) is ≡ Ok xs → AreTaken is xs
imports_taken own [] xs e = subst (AreTaken []) (ok_is {E = Spot} [] xs e) (record { valid = tt; same = refl })
imports_taken own (i ∷ is) xs e =
    let a = then_ok (λ y. and_then (λ ys. Ok (y ∷ ys)) (each (import_of own) is)) (import_of own i) xs e in
    let b = then_ok (λ ys. Ok (a.0 ∷ ys)) (each (import_of own) is) xs a.2 in
    let first = import_taken own i a.0 a.1 in
    let rest = imports_taken own is b.0 b.1 in
    subst (AreTaken (i ∷ is)) (ok_is {E = Spot} (a.0 ∷ b.0) xs b.2)
    (record {
      valid = (first.valid, rest.valid);
      same = ap (λ ps. a.0.path ∷ ps) rest.same ∙ sym (ap (λ ps. ps ++ import_paths is) first.only);
    })

-- ---- constants

count_is : (n : ℕ) → is_count n ≡ true → (1 ≤ n) × (n < 2 ^ 32)
count_is n e = let a = and_parts (nat_le 1 n) (nat_lt n (2 ^ 32)) e in (leb-true 1 n a.0, ltb-true n (2 ^ 32) a.1)

named_small : (n : Placed) (ts : List Term) → is_declared_name n ≡ true → IsSmallConstant (record { name = n.text; spot = n.spot; terms = ts })
named_small n ts e =
    let a = and_parts (is_constant_name n.text && nat_le (length n.text) 4096) (is_place n.spot) e in
    let b = and_parts (is_constant_name n.text) (nat_le (length n.text) 4096) a.0 in
    let p = and_parts (is_count n.spot.line) (is_count n.spot.col) a.1 in
    let line = count_is n.spot.line p.0 in
    let column = count_is n.spot.col p.1 in
    record {
      is_name = constant_name n.text b.0;
      name = leb-true (length n.text) 4096 b.1;
      line = line.0;
      line_fits = line.1;
      column = column.0;
      column_fits = column.1;
    }

one_named : (ns : List Placed) (n : Placed) → one_name ns ≡ Some n → is_declared_name n ≡ true
one_named [] n e = absurd cc
one_named (m ∷ []) n e = elim (is_declared_name m) as (λ b. is_declared_name m ≡ b → cond b (Some m) None ≡ Some n → is_declared_name n ≡ true) [
  | true ↦ λ is k. ap is_declared_name (sym (some_is m n k)) ∙ is
  | false ↦ λ is k. absurd cc
] refl e
one_named (m ∷ o ∷ ns) n e = absurd cc

parts_small : (imports own : Known) (s : Spot) (o : Option Placed) (type : MaybeType) (value : Option Tree) (c : ConstantSum) → ((n : Placed) → o ≡ Some n → is_declared_name n ≡ true) → constant_of_parts imports own s o type value ≡ Ok c → IsSmallConstant c
parts_small imports own s None type value c h e = absurd cc
parts_small imports own s (Some n) type None c h e = absurd cc
parts_small imports own s (Some n) (given_type t) (Some v) c h e = absurd cc
parts_small imports own s (Some n) no_type (Some v) c h e =
    let a = then_ok (λ ts. Ok (record { name = n.text; spot = n.spot; terms = ts })) (terms_of imports own v) c e in
    subst IsSmallConstant (ok_is {E = Spot} _ c a.2) (named_small n a.0 (h n refl))

constant_small : (imports own : Known) (d : Decl) (c : ConstantSum) → constant_of imports own d ≡ Ok c → IsSmallConstant c
constant_small imports own (common_decl (constants s (One v))) c e = parts_small imports own s (one_name v.names) v.of (one_tree v.values) c (one_named v.names) e
constant_small imports own (common_decl (constants s (Grouped vs))) c e = absurd cc
constant_small imports own (common_decl (variables s vs)) c e = absurd cc
constant_small imports own (type_decl s ts) c e = absurd cc
constant_small imports own (method_decl s r n ps t b) c e = absurd cc
constant_small imports own (func_decl s n ps gs t b) c e = absurd cc

pub record AreSmall (ds : List Decl) (cs : List ConstantSum) : Type 0 where
  pub small : AllByRecursion IsSmallConstant cs
  pub count : length cs ≡ length ds

pub constants_small : (imports own : Known) (ds : List Decl) (cs : List ConstantSum) → constants_of imports own ds ≡ Ok cs → AreSmall ds cs
constants_small imports own [] cs e = subst (AreSmall []) (ok_is {E = Spot} [] cs e) (record { small = tt; count = refl })
constants_small imports own (d ∷ ds) cs e =
    let a = then_ok (λ c. and_then (λ more. Ok (c ∷ more)) (constants_of imports (with_name c.name own) ds)) (constant_of imports own d) cs e in
    let b = then_ok (λ more. Ok (a.0 ∷ more)) (constants_of imports (with_name a.0.name own) ds) cs a.2 in
    let rest = constants_small imports (with_name a.0.name own) ds b.0 b.1 in
    subst (AreSmall (d ∷ ds)) (ok_is {E = Spot} (a.0 ∷ b.0) cs b.2) (record { small = (constant_small imports own d a.0 a.1, rest.small); count = ap suc rest.count })

-- ---- sources

some_text : (n : ℕ) → 1 ≤ n → not (nat_eq n 0) ≡ true
some_text n h = not_from_false (nat_eq n 0) (ne_eqb n 0 (λ e. omega arith))

-- a source that is taken, of a package of this path
pub record IsPart (source : Source) (p : Part) : Type 0 where
  pub small : IsSmallPart p
  pub paths : map (λ i. i.path) p.imports ≡ import_paths source.tree.imports
  pub count : length p.constants ≡ length source.tree.decls

part_taken : (path : List ℕ) (source : Source) (p : Part) → is_source path source ≡ true → part_of path source ≡ Ok p → IsPart source p
part_taken path source p is e =
    let own = and_parts (nat_le 1 (length source.name) && nat_le (length source.name) 255) (is_package_name path source.tree.package_name.text) is in
    let sizes = and_parts (nat_le 1 (length source.name)) (nat_le (length source.name) 255) own.0 in
    let a = then_ok (λ imports. part_with source.name imports (constants_of (is_among (segments imports)) nothing source.tree.decls)) (each (import_of path) source.tree.imports) p e in
    let b = then_ok (λ cs. Ok (record { file = source.name; imports = a.0; constants = cs })) (constants_of (is_among (segments a.0)) nothing source.tree.decls) p a.2 in
    let imports = imports_taken path source.tree.imports a.0 a.1 in
    let sums = constants_small (is_among (segments a.0)) nothing source.tree.decls b.0 b.1 in
    subst (IsPart source) (ok_is {E = Spot} (record { file = source.name; imports = a.0; constants = b.0 }) p b.2)
    (record {
      small = record {
        some_file = some_text (length source.name) (leb-true 1 (length source.name) sizes.0);
        file = leb-true (length source.name) 255 sizes.1;
        imports = imports.valid;
        constants = sums.small;
      };
      paths = imports.same;
      count = sums.count;
    })

at_ok : {A : Type 0} (file : List ℕ) (r : Result A Spot) (x : A) → at_file file r ≡ Ok x → r ≡ Ok x
at_ok file (Ok y) x e = ap Ok (ok_is {E = Pos} y x e)
at_ok file (Err s) x e = absurd cc

pub record AreParts (sources : List Source) (ps : List Part) : Type 0 where
  pub small : AllByRecursion IsSmallPart ps
  pub paths : part_paths ps ≡ file_paths (map (λ s. s.tree) sources)
  pub count : length (names ps) ≡ decl_count sources

pub as_long : {X Y : Type 0} (f : X → Y) (xs : List X) → length (map f xs) ≡ length xs
as_long f [] = refl
as_long f (x ∷ xs) = ap suc (as_long f xs)

pub parts_taken : (path : List ℕ) (sources : List Source) (ps : List Part) → list_all (is_source path) sources ≡ true → parts_of path sources ≡ Ok ps → AreParts sources ps
parts_taken path [] ps are e = subst (AreParts []) (ok_is {E = Pos} [] ps e) (record { small = tt; paths = refl; count = refl })
parts_taken path (source ∷ sources) ps are e =
    let s = and_parts (is_source path source) (list_all (is_source path) sources) are in
    let a = then_ok (λ p. and_then (λ more. Ok (p ∷ more)) (parts_of path sources)) (at_file source.name (part_of path source)) ps e in
    let b = then_ok (λ more. Ok (a.0 ∷ more)) (parts_of path sources) ps a.2 in
    let first = part_taken path source a.0 s.0 (at_ok source.name (part_of path source) a.0 a.1) in
    let rest = parts_taken path sources b.0 s.1 b.1 in
    subst (AreParts (source ∷ sources)) (ok_is {E = Pos} (a.0 ∷ b.0) ps b.2)
    (record {
      small = (first.small, rest.small);
      paths = ap (λ xs. xs ++ part_paths b.0) first.paths ∙ ap (λ xs. import_paths source.tree.imports ++ xs) rest.paths;
      count = length-append (map (λ c. c.name) a.0.constants) (names b.0) ∙ ap (λ n. n + length (names b.0)) (as_long (λ (c : ConstantSum). c.name) a.0.constants ∙ first.count) ∙ ap (λ n. length source.tree.decls + n) rest.count;
    })
