-- The paths of the imports in trees that are given.
use Rattle.std.proofs.Common.{◌≡◌, ℕ, Bool, true, false, not, ◌||◌, List, [], ◌∷◌, Option, Some, None, Result, Ok, Err, refl, sym, ap, subst, bytes_eq, cond}
use Rattle.std.specs.List.{AllByRecursion}
use Rattle.ui_base.specs.Paths.{is_path}
use Rattle.ui_base.specs.declared.value.Spot.{Spot}
use Rattle.ui_scan.specs.declared.kind.Token.{Token}
use Rattle.ui_tree.specs.Stmt.{File, Import, Imported}
use Rattle.ui_grammar.specs.Word.{words}
use Rattle.ui_parse.specs.Reader.{Outcome}
use Rattle.ui_stmts.specs.Decls.{whole_file}
use Rattle.ui_pexpr.specs.declared.fault.ParseFault.{ParseFault}
use Rattle.ui_pexpr.specs.Forms.{or_else}
use Rattle.ui_base.specs.declared.fault.Fault.{Fault}
use Rattle.ui_pdecl.specs.FileResult.{all_specs, bad_import, bad_spec, file_result, is_bad, result_of, with_paths}
use Rattle.ui_sources.specs.Sources.{HasValidPaths, PathsAreValid, SourceFile, SourceTree, Trees, bytes_of, parsed, size_of, tokens_in, tree_in, trees_of}
use Rattle.ui_base.specs.Steps.{and_then, each}
use Rattle.ui_base.proofs.StepLemmas.{each_all, went}

-- ---- a file's imports

abbrev HasPath : Imported → Type 0
HasPath i = is_path i.path.text ≡ true

abbrev HasPaths : Import → Type 0
HasPaths i = AllByRecursion HasPath (all_specs i.specs)

good-path : (p q : Bool) → (not p || q) ≡ false → p ≡ true
good-path true q e = refl
good-path false q e = absurd cc

-- what an option says that isn't there
record Unsaid (b : Bool) (rest : Option Spot) : Type 0 where
  pub no : b ≡ false
  pub none : rest ≡ None

unsaid : (b : Bool) (s : Spot) (rest : Option Spot) → cond b (Some s) rest ≡ None → Unsaid b rest
unsaid true s rest e = absurd cc
unsaid false s rest e = record { no = refl; none = e }

record Neither (a b : Option Spot) : Type 0 where
  pub first : a ≡ None
  pub second : b ≡ None

neither : (a b : Option Spot) → or_else a b ≡ None → Neither a b
neither None b e = record { first = refl; second = e }
neither (Some s) b e = absurd cc

valid_specs : (own : List ℕ) (is : List Imported) → bad_spec own is ≡ None → AllByRecursion HasPath is
valid_specs own [] e = tt
valid_specs own (i ∷ is) e =
    let u = unsaid (is_bad own i.path.text) i.path.spot (bad_spec own is) e in
    (good-path (is_path i.path.text) (bytes_eq i.path.text own) u.no, valid_specs own is u.none)

valid_imports : (own : List ℕ) (is : List Import) → bad_import own is ≡ None → AllByRecursion HasPaths is
valid_imports own [] e = tt
valid_imports own (i ∷ is) e =
    let n = neither (bad_spec own (all_specs i.specs)) (bad_import own is) e in
    (valid_specs own (all_specs i.specs) n.first, valid_imports own is n.second)

-- ---- a file's result

valid_with : (own : List ℕ) (ts : List Token) (f g : File) (o : Option Spot) → bad_import own f.imports ≡ o → with_paths ts f o ≡ Ok g → HasValidPaths g
valid_with own ts f g None b e = let q : f ≡ g = cc in subst HasValidPaths q (valid_imports own f.imports b)
valid_with own ts f g (Some s) b e = absurd cc

valid_of : (own bytes : List ℕ) (ts : List Token) (o : Outcome File) (g : File) → result_of own bytes ts o ≡ Ok g → HasValidPaths g
valid_of own bytes ts (Ok p) g e = valid_with own ts p.0 g (bad_import own p.0.imports) refl e
valid_of own bytes ts (Err ws) g e = absurd cc

valid_result : (own bytes : List ℕ) (ts : List Token) (g : File) → file_result own bytes ts ≡ Ok g → HasValidPaths g
unfolding file_result
valid_result own bytes ts g e = valid_of own bytes ts (whole_file 199 (words bytes ts)) g e

abbrev tree_or : File → Result SourceTree Fault → File
tree_or f (Ok t) = t.tree
tree_or f (Err fault) = f

valid_parsed : (s : SourceFile) (r : Result File ParseFault) (t : SourceTree) → ((g : File) → r ≡ Ok g → HasValidPaths g) → parsed s r ≡ Ok t → HasValidPaths t.tree
valid_parsed s (Ok f) t good e = let q : f ≡ t.tree = ap (λ r. tree_or f r) e in subst HasValidPaths q (good f refl)
valid_parsed s (Err x) t good e = absurd cc

valid_tree : (own : List ℕ) (s : SourceFile) (t : SourceTree) → tree_in own s ≡ Ok t → HasValidPaths t.tree
valid_tree own s t e =
    let w = went (λ ts. parsed s (file_result own (bytes_of s) ts)) (tokens_in s) t e in
    valid_parsed s (file_result own (bytes_of s) w.x) t (valid_result own (bytes_of s) w.x) w.then

-- ---- all trees

abbrev IsValid : SourceTree → Type 0
IsValid t = HasValidPaths t.tree

abbrev files_or : List SourceTree → Result Trees Fault → List SourceTree
files_or files (Ok t) = t.files
files_or files (Err fault) = files

valid_files : (own : List ℕ) (sources : List SourceFile) (size : ℕ) (r : Result (List SourceTree) Fault) (t : Trees) → r ≡ each (tree_in own) sources → and_then (λ files. Ok (record { size = size; files = files })) r ≡ Ok t → AllByRecursion IsValid t.files
valid_files own sources size (Ok files) t is e =
    let q : files ≡ t.files = ap (λ r. files_or files r) e in
    subst (AllByRecursion IsValid) q (each_all IsValid (tree_in own) (valid_tree own) sources files (sym is))
valid_files own sources size (Err fault) t is e = absurd cc

pub paths-are-valid : PathsAreValid
unfolding trees_of
paths-are-valid own sources t e =
    let a = went (λ size. and_then (λ tokens. and_then (λ files. Ok (record { size = size; files = files })) (each (tree_in own) sources)) (each tokens_in sources)) (size_of sources) t e in
    let b = went (λ tokens. and_then (λ files. Ok (record { size = a.x; files = files })) (each (tree_in own) sources)) (each tokens_in sources) t a.then in
    valid_files own sources a.x (each (tree_in own) sources) t refl b.then
