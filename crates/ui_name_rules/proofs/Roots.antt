-- What is asked of the roots.
use Rattle.std.proofs.Common.{◌≡◌, ℕ, zero, suc, ◌<◌, Bool, true, false, cond, List, length, Option, Some, None}
use Rattle.std.proofs.Common.{refl, sym, ap, subst, ◌∙◌, arith}
use Rattle.std.specs.Prelude.{bytes_eq, get_or}
use Rattle.std.proofs.lemmas.Slice.Eq.{bytes_eq-Decides}
use Rattle.ui_frame.specs.declared.section.Section.{Section}
use Rattle.ui_frame.specs.declared.section.Section.TheVariants.{Meta}
use Rattle.ui_base.specs.declared.name.Name.{Name}
use Rattle.ui_file.specs.Words.{Words, words, listed_of, own_path}
use Rattle.ui_file.specs.Rules.{KeepsCount, KeepsPath, count_in, all_pairs, name_before}
use Rattle.ui_file.specs.declared.file.File.{File}
use Rattle.ui_file_rules.specs.First.{FirstOf}

abbrev pub first_of : Bool → Option ℕ
first_of b = cond b None (Some 0)

-- the names of the public root
pub roots_ascend : (x : File) (b : Bool) → b ≡ all_pairs name_before (listed_of x)
    → FirstOf (KeepsCount x Meta) (count_in x Meta) (first_of b)
roots_ascend x true e = λ k lt. sym e
roots_ascend x false e =
    (omega arith, (λ h. let n : true ≡ false = sym h ∙ sym e in cc), λ k lt. absurd (omega arith))

-- the path of the public root
pub path_is : (path : List ℕ) (x : File) (b : Bool) → b ≡ bytes_eq (own_path x) path
    → FirstOf (KeepsPath path x Meta) (count_in x Meta) (first_of b)
path_is path x true e = at
  where
    at : (k : ℕ) → k < 2 → KeepsPath path x Meta k
    at zero lt = (bytes_eq-Decides (own_path x) path).0 (sym e)
    at (suc k) lt = tt
path_is path x false e = (
  omega arith,
  (λ h. let n : true ≡ false = sym ((bytes_eq-Decides (own_path x) path).1 h) ∙ sym e in cc),
  λ k lt. absurd (omega arith),
)
