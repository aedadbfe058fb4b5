-- All phases, one behind another.
use Rattle.std.proofs.Common.{◌≡◌, ℕ, List, Result, Ok, Err, ap, ◌∙◌}
use Rattle.ui_base.specs.declared.fault.CheckFault.{CheckFault}
use Rattle.ui_base.specs.declared.fault.CheckFault.TheVariants as check
use Rattle.ui_scan.specs.declared.kind.Token.{Token}
use Rattle.ui_base.specs.declared.fault.Fault.{Fault}
use Rattle.ui_sources.specs.Choosing.{Gives}
use Rattle.ui_sources.specs.Sources.{GivesTrees, SourceFile, SourceTree, Trees, size_of, tokens_in, tree_in, trees_of}
use Rattle.ui_base.specs.Steps.{and_then, each}

abbrev with_size : ℕ → Result (List SourceTree) Fault → Result Trees Fault
with_size size r = and_then (λ files. Ok (record { size = size; files = files })) r

abbrev after_size : List ℕ → List SourceFile → ℕ → Result Trees Fault
after_size own sources size = and_then (λ tokens. with_size size (each (tree_in own) sources)) (each tokens_in sources)

module _ (own : List ℕ) (sources : List SourceFile) where
  pub size_stops : (e : CheckFault) → Gives {A = ℕ} (λ n. n) (size_of sources) (Err e) → GivesTrees (trees_of own sources) (Err e)
  unfolding trees_of
  size_stops (check.Fault f) g = ap (and_then (after_size own sources)) g
  size_stops check.NoMemory g = tt

  module _ (size : ℕ) (sized : size_of sources ≡ Ok size) where
    behind_size : trees_of own sources ≡ after_size own sources size
    unfolding trees_of
    behind_size = ap (and_then (after_size own sources)) sized

    pub tokens_stop : {B : Type 0} (see : B → List (List Token)) (e : CheckFault) → Gives see (each tokens_in sources) (Err e) → GivesTrees (trees_of own sources) (Err e)
    tokens_stop see (check.Fault f) g = behind_size ∙ ap (and_then (λ tokens. with_size size (each (tree_in own) sources))) g
    tokens_stop see check.NoMemory g = tt

    module _ (tokens : List (List Token)) (scanned : each tokens_in sources ≡ Ok tokens) where
      behind_tokens : trees_of own sources ≡ with_size size (each (tree_in own) sources)
      behind_tokens = behind_size ∙ ap (and_then (λ us. with_size size (each (tree_in own) sources))) scanned

      pub files_stop : {B : Type 0} (see : B → List SourceTree) (e : CheckFault) → Gives see (each (tree_in own) sources) (Err e) → GivesTrees (trees_of own sources) (Err e)
      files_stop see (check.Fault f) g = behind_tokens ∙ ap (with_size size) g
      files_stop see check.NoMemory g = tt

      pub all_read : (files : List SourceTree) → each (tree_in own) sources ≡ Ok files → trees_of own sources ≡ Ok (record { size = size; files = files })
      all_read files g = behind_tokens ∙ ap (with_size size) g
