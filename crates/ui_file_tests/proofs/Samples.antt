-- The linked value that a test writes is small.
use Rattle.std.proofs.Common.{◌≡◌, ◌∙◌, ap, sym, subst, refl, ℕ, ◌-◌, ◌^◌, ◌≤◌, length, map, true, false, List, [], ◌∷◌, ◌++◌, lit≤, lit<}
use Rattle.std.specs.List.{AllByRecursion}
use Rattle.std.specs.List.Sorted.{IsStrictlySortedBy}
use Rattle.std.specs.Ordering.{nat_cmp}
use Rattle.std.specs.Cmp.Lexicographic.{slice_cmp, nat_list_cmp_total}
use Rattle.std.specs.FinMap.{entries, insert, len-entries, entries-insert}
use Rattle.std.specs.FinMap.Entries.{put}
use Rattle.ui_base.specs.Names.{is_name}
use Rattle.ui_base.specs.Paths.{is_path}
use Rattle.ui_exports.specs.Adding.{with_decls}
use Rattle.ui_exports.specs.Export.{Declaration, Declarations, Export}
use Rattle.ui_exports.specs.Constants.{declarations_of}
use Rattle.ui_exports.proofs.Entries.{entries-declarations_of}
use Rattle.ui_exports.specs.Linked.{Below, Linked, below}
use Rattle.ui_exports.specs.declared.linked.Below.{Below as Held}
use Rattle.ui_consts.specs.Size.{HasName, IsSmall, IsSmallEntry}

-- a constant in the file `f`
abbrev pub constant : ℕ → ℕ → Declaration
constant line value = record { file = 102 ∷ []; line = line; column = 7; value = value }

abbrev pub greatest : ℕ
greatest = 2 ^ 127 - 1

-- `N = 7`, and `M`, which is the greatest value
abbrev pub declared : Declarations
declared = insert (insert (declarations_of []) (78 ∷ []) (constant 3 7)) (77 ∷ []) (constant 4 greatest)

abbrev pub listed : List (List ℕ × Declaration)
listed = (77 ∷ [], constant 4 greatest) ∷ (78 ∷ [], constant 3 7) ∷ []

-- a fingerprint
abbrev pub print : List ℕ
print = 9 ∷ 9 ∷ 9 ∷ 9 ∷ 9 ∷ 9 ∷ 9 ∷ 9 ∷ []

-- the package `x/a` without constants
abbrev pub empty : Export
empty = record { path = 120 ∷ 47 ∷ 97 ∷ []; name = 97 ∷ []; decls = declarations_of [] }

-- the direct import `b`, and `c`, which is below it
abbrev pub direct : Below
direct = record { path = 98 ∷ []; print = print; direct = true }

abbrev pub indirect : Below
indirect = record { path = 99 ∷ []; print = print; direct = false }

abbrev pub sample : Linked
sample = record { export = with_decls empty declared; below = direct ∷ indirect ∷ [] }

are_listed : entries declared ≡ listed
unfolding IsStrictlySortedBy
are_listed =
    entries-insert nat_list_cmp_total _ (77 ∷ []) (constant 4 greatest)
    ∙ ap (put (slice_cmp nat_cmp) (77 ∷ []) (constant 4 greatest)) (entries-insert nat_list_cmp_total (declarations_of []) (78 ∷ []) (constant 3 7) ∙ ap (put (slice_cmp nat_cmp) (78 ∷ []) (constant 3 7)) (entries-declarations_of [] tt))

small_entries : AllByRecursion IsSmallEntry listed
small_entries = (
  record { name = lit≤ tt; file = lit≤ tt; line = lit≤ tt; line_fits = lit< tt; column = lit≤ tt; column_fits = lit< tt; value = lit< tt },
  (record { name = lit≤ tt; file = lit≤ tt; line = lit≤ tt; line_fits = lit< tt; column = lit≤ tt; column_fits = lit< tt; value = lit< tt }, tt),
)

sample_is_small : is_name (97 ∷ []) ≡ true → is_name (78 ∷ []) ≡ true → is_name (77 ∷ []) ≡ true → IsSmall sample
unfolding is_path IsStrictlySortedBy
sample_is_small a n m = record {
  export = record { path = lit≤ tt; name = lit≤ tt; few = subst (λ k. k ≤ 4096) (sym (len-entries declared ∙ ap length are_listed)) (lit≤ tt); entries = subst (AllByRecursion IsSmallEntry) (sym are_listed) small_entries };
  names = record { path = refl; name = a; entries = subst (AllByRecursion HasName) (sym are_listed) (record { name = m; file = refl }, (record { name = n; file = refl }, tt)) };
  below = record { each = (record { path = refl; print = refl }, (record { path = refl; print = refl }, tt)); ascending = ((refl, tt), (tt, tt)) };
  few_below = lit≤ tt;
}

abbrev pub with_constant : Export → List ℕ → Declaration → Export
with_constant e name d = with_decls e (insert e.decls name d)

-- what is made step by step is the sample
pub made_is_small : (a b e : Export) (x y : Held) (first second both : List Held) → a ≡ empty → b ≡ with_constant a (78 ∷ []) (constant 3 7) → e ≡ with_constant b (77 ∷ []) (constant 4 greatest) → first ≡ [] → second ≡ first ++ x ∷ [] → both ≡ second ++ y ∷ [] → below x ≡ direct → below y ≡ indirect
    → is_name (97 ∷ []) ≡ true → is_name (78 ∷ []) ≡ true → is_name (77 ∷ []) ≡ true → IsSmall (record { export = e; below = map below both })
made_is_small a b e x y first second both is_a is_b is_e is_first is_second is_both is_x is_y name_a name_n name_m =
    let export : e ≡ sample.export = is_e ∙ ap (λ (p : Export). with_constant p (77 ∷ []) (constant 4 greatest)) (is_b ∙ ap (λ (p : Export). with_constant p (78 ∷ []) (constant 3 7)) is_a) in
    let held : both ≡ x ∷ y ∷ [] = is_both ∙ ap (λ (l : List Held). l ++ y ∷ []) (is_second ∙ ap (λ (l : List Held). l ++ x ∷ []) is_first) in
    let list : map below both ≡ sample.below = ap (map below) held ∙ (λ i. is_x i ∷ is_y i ∷ []) in
    subst IsSmall (sym (λ i. record { export = export i; below = list i })) (sample_is_small name_a name_n name_m)
