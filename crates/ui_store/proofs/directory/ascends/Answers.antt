use Rattle.std.proofs.Common.{◌≡◌, ◌<◌, ◌-◌, ◌+◌, ℕ, List, length, get_or, map, string_bytes, [], String, Global, sym, ◌∙◌, ap, subst, arith, below_more}
use Rattle.std.specs.Ordering.{nat_cmp}
use Rattle.std.specs.Cmp.Lexicographic.{slice_cmp, nat_list_cmp_total}
use Rattle.std.specs.declared.cmp.Ordering.TheVariants.{Less}
use Rattle.std.proofs.lemmas.List.{get_or-map, length-map}
use Rattle.std.proofs.lemmas.Map.Keys.{sorted_from_all_adjacent}
use Rattle.ui_store.proofs.directory.ascends.Goals as goal

at_place : (names : List (String Global)) (i : ℕ) (s : String Global) → i < length names → s ≡ get_or names i s → get_or (map string_bytes names) i [] ≡ string_bytes s
at_place names i s h e = get_or-map string_bytes names i s [] h ∙ ap string_bytes (sym e)

in_order : (names : List (String Global)) (i k : ℕ) (s t : String Global) → i < length names → k < length names → s ≡ get_or names i s → t ≡ get_or names k t → slice_cmp nat_cmp (string_bytes s) (string_bytes t) ≡ Less → slice_cmp nat_cmp (get_or (map string_bytes names) i []) (get_or (map string_bytes names) k []) ≡ Less
in_order names i k s t h l e f o =
    ap (λ x. slice_cmp nat_cmp x (get_or (map string_bytes names) k [])) (at_place names i s h e) ∙ ap (λ y. slice_cmp nat_cmp (string_bytes s) y) (at_place names k t l f) ∙ o

pub loop-k-preserved : goal.loop-k-preserved
loop-k-preserved c = below_more _ _ c.loop-k.invariant (λ above. in_order c.args.names.now (c.loop-k.k - 1) c.loop-k.k c.index-names-k.result c.index-names-k-in-loop-k.result (omega arith) (omega arith) c.index-names-k.is c.index-names-k-in-loop-k.is (sym c.cmp.ensures ∙ c.in-Less.is))

shifted : (names : List (List ℕ)) (k : ℕ) → ((j : ℕ) → j < k → 0 < j → slice_cmp nat_cmp (get_or names (j - 1) []) (get_or names j []) ≡ Less) → (j : ℕ) → j + 1 < k → slice_cmp nat_cmp (get_or names j []) (get_or names (j + 1) []) ≡ Less
shifted names k h j l =
    let back : (j + 1) - 1 ≡ j = omega arith in
    subst (λ i. slice_cmp nat_cmp (get_or names i []) (get_or names (j + 1) []) ≡ Less) back (h (j + 1) l (omega arith))

pub returns : goal.returns
returns c = λ _. sorted_from_all_adjacent nat_list_cmp_total _ [] (λ j h. shifted (map string_bytes c.args.names.now) c.loop-k.k c.loop-k.invariant j (omega (arith, length-map c.args.names.now string_bytes, c.loop-k-test.false)))
