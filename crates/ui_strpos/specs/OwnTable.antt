-- A use is its place in the element's whole table.
use Rattle.std.proofs.Common.{◌≡◌, ℕ, ◌<◌, List, [], ◌∷◌, ◌++◌, length, Bool, true, false, cond, ltb, refl, sym, ap, ◌∙◌, arith}
use Rattle.std.proofs.lemmas.Bool.{ltb-true, ltb-false}
use Rattle.std.proofs.lemmas.List.{length-append}
use Rattle.ui_frame.specs.Number.{uint, int, truth}
use Rattle.ui_strpos.specs.declared.target.Target.{Target}
use Rattle.ui_strpos.specs.Items.{Item, UInt, Int, Truth, Use, Written, target, place_in, after_use, bytes_by, written, nothing}
use Rattle.ui_strpos.specs.Tables.{place_within, place_append_old, place_append_new}
use Rattle.ui_strpos.specs.Bytes.{table_from, data_from, grown, written_is}

-- the data over one table
abbrev pub data_in : List Target → List Item → List ℕ
data_in table [] = []
data_in table (i ∷ is) = bytes_by table i ++ data_in table is

place_after : (table : List Target) (t : Target) (b : Bool) → ltb (place_in table t) (length table) ≡ b
    → (place_in (cond b table (table ++ t ∷ [])) t ≡ place_in table t) × (place_in table t < length (cond b table (table ++ t ∷ [])))
place_after table t true e = (refl, ltb-true (place_in table t) (length table) e)
place_after table t false e =
    let w = place_within table t in
    let ge = ltb-false (place_in table t) (length table) e in
    let at : place_in table t ≡ length table = omega arith in
    (place_append_new table t at ∙ sym at, omega (arith, length-append table (t ∷ [])))

-- the place that the fields before a use give it is its place in the whole table
use_place : (is : List Item) (table : List Target) (t : Target) → place_in (table_from (after_use table t) is) t ≡ place_in table t
use_place is table t =
    let g = grown is (after_use table t) in
    let p = place_after table t (ltb (place_in table t) (length table)) refl in
    ap (λ (x : List Target). place_in x t) g.1 ∙ place_append_old (after_use table t) g.0 t (let a = p.0 in let b = p.1 in omega arith) ∙ p.0

pub own_table : (is : List Item) (table : List Target) → data_from table is ≡ data_in (table_from table is) is
own_table [] table = refl
own_table (UInt n ∷ is) table = ap (λ (x : List ℕ). uint n ++ x) (own_table is table)
own_table (Int z ∷ is) table = ap (λ (x : List ℕ). int z ++ x) (own_table is table)
own_table (Truth b ∷ is) table = ap (λ (x : List ℕ). truth b ++ x) (own_table is table)
own_table (Use s k ∷ is) table =
    let t : Target = target s k in
    ap (λ (x : List ℕ). uint (place_in table t) ++ x) (own_table is (after_use table t))
    ∙ ap (λ (n : ℕ). uint n ++ data_in (table_from (after_use table t) is) is) (sym (use_place is table t))

-- the bytes of fields, over the table that is written with them
pub own_places : (is : List Item) → (written nothing is).bytes ≡ data_in (written nothing is).table is
own_places is = ap (λ (w : Written). w.bytes) (written_is is nothing) ∙ own_table is [] ∙ ap (λ (w : Written). data_in w.table is) (sym (written_is is nothing))
