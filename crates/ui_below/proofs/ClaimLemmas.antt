-- Claims that are added one after another.
use Rattle.std.proofs.Common.{◌≡◌, ◌∙◌, sym, ap, refl, ℕ, ◌+◌, ◌<◌, ◌≤◌, List, [], ◌∷◌, ◌++◌, length, drop, get_or}
use Rattle.std.proofs.lemmas.List.{drop_all, drop_more}
use Rattle.ui_exports.specs.Linked.{Below, Linked}
use Rattle.ui_below.specs.Claims.{Held, ByPath, claims, claims_of}
use Rattle.ui_below.specs.Holding.{with_claim, with_claims}

pub with_claims_append : (m : ByPath Held) (a b : List Below) → with_claims m (a ++ b) ≡ with_claims (with_claims m a) b
with_claims_append m [] b = refl
with_claims_append m (c ∷ cs) b = with_claims_append (with_claim m c) cs b

pub claims_more : (files : List Linked) (prints : List (List ℕ)) (i : ℕ) (file : Linked) → i < length files → i < length prints → file ≡ get_or files i file
    → claims (drop i files) (drop i prints) ≡ claims_of file (get_or prints i []) ++ claims (drop (i + 1) files) (drop (i + 1) prints)
claims_more files prints i file in_files in_prints is =
    ap (λ fs. claims fs (drop i prints)) (drop_more files i file in_files)
    ∙ ap (λ ps. claims (get_or files i file ∷ drop (i + 1) files) ps) (drop_more prints i [] in_prints)
    ∙ ap (λ f. claims_of f (get_or prints i []) ++ claims (drop (i + 1) files) (drop (i + 1) prints)) (sym is)

-- the files left, when one more is added
pub one_file : (m more all : ByPath Held) (files : List Linked) (prints : List (List ℕ)) (i : ℕ) (file : Linked) → i < length files → i < length prints → file ≡ get_or files i file
    → more ≡ with_claims m (claims_of file (get_or prints i [])) → with_claims m (claims (drop i files) (drop i prints)) ≡ all → with_claims more (claims (drop (i + 1) files) (drop (i + 1) prints)) ≡ all
one_file m more all files prints i file in_files in_prints is added left =
    ap (λ x. with_claims x (claims (drop (i + 1) files) (drop (i + 1) prints))) added
    ∙ sym (with_claims_append m (claims_of file (get_or prints i [])) (claims (drop (i + 1) files) (drop (i + 1) prints)))
    ∙ ap (with_claims m) (sym (claims_more files prints i file in_files in_prints is))
    ∙ left

-- no files left
pub no_file_left : (m all : ByPath Held) (files : List Linked) (prints : List (List ℕ)) (i : ℕ) → length files ≤ i → with_claims m (claims (drop i files) (drop i prints)) ≡ all → m ≡ all
no_file_left m all files prints i past left = sym (ap (λ fs. with_claims m (claims fs (drop i prints))) (drop_all i files past)) ∙ left
