-- What packages export.
use Rattle.std.proofs.Common.{◌≡◌, ℕ, suc, ◌+◌, ◌^◌, ◌<◌, ◌≤◌, true, false, cond, List, [], ◌∷◌, map, length, Result, Ok, Err, refl, sym, ap, ◌∙◌, subst, arith, lit<}
use Rattle.std.specs.Prelude.{nat_lt}
use Rattle.std.specs.List.{AllByRecursion}
use Rattle.std.specs.declared.cmp.Ordering.TheVariants.{Less, Equal, Greater}
use Rattle.std.specs.Ordering.{nat_cmp}
use Rattle.std.specs.Cmp.Lexicographic.{slice_cmp, nat_list_cmp_total}
use Rattle.std.specs.FinMap.{entries, len, empty, insert, entries-insert, len-entries, len-empty}
use Rattle.std.specs.FinMap.Entries.{put, by_order}
use Rattle.std.proofs.lemmas.Bool.{ltb-true}
use Rattle.std.proofs.lemmas.List.{length-append, nil_from_length}
use Rattle.ui_base.specs.declared.fault.FaultKind.TheVariants.{ConstTooBig}
use Rattle.ui_base.specs.declared.fault.Fault.{Fault}
use Rattle.ui_exports.specs.Export.{Declaration, Declarations, Export}
use Rattle.ui_base.specs.Steps.{and_then}
use Rattle.ui_forms.specs.Form.{Form, names}
use Rattle.ui_forms.specs.Size.{IsSmallConstant, IsSmallEntry, IsSmallExport, IsSmallForm, IsSmallPart, is_some_text}
use Rattle.ui_forms.specs.Laws.{ExportHasPath, ExportsAreSmall}
use Rattle.ui_forms.specs.Verdict.{Environment, Selection, added, all_used, constant_value, declared, declared_from, exported, fault_at, first_spot, parts_from, sum_of, term_value, value_from, verdict}
use Rattle.ui_forms.specs.declared.part.Term.{Term}
use Rattle.ui_forms.specs.declared.part.ConstantSum.{ConstantSum}
use Rattle.ui_forms.specs.declared.part.Part.{Part}
use Rattle.ui_forms.proofs.PartLaws.{as_long, ok_is, then_ok}

-- ---- values

added-small : (too_big : Fault) (sum value next : ℕ) → added too_big sum value ≡ Ok next → next < 2 ^ 127
added-small too_big sum value next e =
    elim (nat_lt (sum + value) (2 ^ 127)) as (λ b. nat_lt (sum + value) (2 ^ 127) ≡ b → cond b (Ok (sum + value)) (Err too_big) ≡ Ok next → next < 2 ^ 127) [
      | true ↦ λ is k. let same : sum + value ≡ next = ok_is {E = Fault} (sum + value) next k in let below : sum + value < 2 ^ 127 = ltb-true (sum + value) (2 ^ 127) is in omega arith
      | false ↦ λ is k. absurd cc
    ] refl e

sum-small : (f : Term → Result ℕ Fault) (too_big : Fault) (sum : ℕ) (ts : List Term) (value : ℕ) → sum < 2 ^ 127 → sum_of f too_big sum ts ≡ Ok value → value < 2 ^ 127
sum-small f too_big sum [] value h e = let same : sum ≡ value = ok_is {E = Fault} sum value e in omega arith
sum-small f too_big sum (t ∷ ts) value h e =
    let a = then_ok (λ next. sum_of f too_big next ts) (and_then (added too_big sum) (f t)) value e in
    let b = then_ok (added too_big sum) (f t) a.0 a.1 in
    sum-small f too_big a.0 ts value (added-small too_big sum b.0 a.0 b.2) a.2

-- ---- declarations

put-small : (name : List ℕ) (d : Declaration) (es : List (List ℕ × Declaration)) → IsSmallEntry (name, d) → AllByRecursion IsSmallEntry es → AllByRecursion IsSmallEntry (put (slice_cmp nat_cmp) name d es)
put-small name d [] new h = (new, tt)
put-small name d (e ∷ es) new h =
    elim (slice_cmp nat_cmp name e.0) as (λ o. AllByRecursion IsSmallEntry (by_order o ((name, d) ∷ e ∷ es) ((e.0, d) ∷ es) (e ∷ put (slice_cmp nat_cmp) name d es))) [
      | Less ↦ (new, h)
      | Equal ↦ (record { is_name = h.0.is_name; name = h.0.name; some_file = new.some_file; file = new.file; line = new.line; line_fits = new.line_fits; column = new.column; column_fits = new.column_fits; value = new.value }, h.1)
      | Greater ↦ (h.0, put-small name d es new h.1)
    ]

length-put : (name : List ℕ) (d : Declaration) (es : List (List ℕ × Declaration)) → length (put (slice_cmp nat_cmp) name d es) ≤ suc (length es)
length-put name d [] = omega arith
length-put name d (e ∷ es) =
    elim (slice_cmp nat_cmp name e.0) as (λ o. length (by_order o ((name, d) ∷ e ∷ es) ((e.0, d) ∷ es) (e ∷ put (slice_cmp nat_cmp) name d es)) ≤ suc (suc (length es))) [
      | Less ↦ omega arith
      | Equal ↦ omega arith
      | Greater ↦ omega (arith, length-put name d es)
    ]

record IsSmallMap (limit : ℕ) (m : Declarations) : Type 0 where
  all : AllByRecursion IsSmallEntry (entries m)
  few : len m ≤ limit

empty-small : IsSmallMap 0 empty
empty-small =
    let none : length (entries (empty {X = Declaration} {R = slice_cmp nat_cmp})) ≡ 0 = sym (len-entries empty) ∙ len-empty (slice_cmp nat_cmp) Declaration in
    record {
      all = subst (AllByRecursion IsSmallEntry) (sym (nil_from_length (entries (empty {X = Declaration} {R = slice_cmp nat_cmp})) none)) tt;
      few = omega (arith, len-empty (slice_cmp nat_cmp) Declaration);
    }

insert-small : (limit : ℕ) (m : Declarations) (name : List ℕ) (d : Declaration) → IsSmallEntry (name, d) → IsSmallMap limit m → IsSmallMap (limit + 1) (insert m name d)
insert-small limit m name d new h =
    let same : entries (insert m name d) ≡ put (slice_cmp nat_cmp) name d (entries m) = entries-insert nat_list_cmp_total m name d in
    record {
      all = subst (AllByRecursion IsSmallEntry) (sym same) (put-small name d (entries m) new h.all);
      few = omega (arith, len-entries (insert m name d), ap length same, length-put name d (entries m), len-entries m, h.few);
    }

-- ---- sources

declared-small : (select : Selection) (file : List ℕ) (limit : ℕ) (before decls : Declarations) (cs : List ConstantSum) → is_some_text file ≡ true → length file ≤ 255 → AllByRecursion IsSmallConstant cs → IsSmallMap limit before → declared_from select file before cs ≡ Ok decls → IsSmallMap (limit + length cs) decls
declared-small select file limit before decls [] some short all h e = subst (IsSmallMap (limit + 0)) (ok_is {E = Fault} before decls e) (record { all = h.all; few = omega (arith, h.few) })
declared-small select file limit before decls (c ∷ cs) some short all h e =
    let a = then_ok (λ value. declared_from select file (insert before c.name (declared file c value)) cs) (constant_value select file before c) decls e in
    let value : a.0 < 2 ^ 127 = sum-small (term_value select file before) (fault_at file ConstTooBig (first_spot c.terms) []) 0 c.terms a.0 (lit< tt) a.1 in
    let entry : IsSmallEntry (c.name, declared file c a.0) = record { is_name = all.0.is_name; name = all.0.name; some_file = some; file = short; line = all.0.line; line_fits = all.0.line_fits; column = all.0.column; column_fits = all.0.column_fits; value = value } in
    let rest = declared-small select file (limit + 1) (insert before c.name (declared file c a.0)) decls cs some short all.1 (insert-small limit before c.name (declared file c a.0) entry h) a.2 in
    record { all = rest.all; few = omega (arith, rest.few) }

parts-small : (e : Environment) (limit : ℕ) (before decls : Declarations) (ps : List Part) → AllByRecursion IsSmallPart ps → IsSmallMap limit before → parts_from e before ps ≡ Ok decls → IsSmallMap (limit + length (names ps)) decls
parts-small e limit before decls [] all h made = subst (IsSmallMap (limit + 0)) (ok_is {E = Fault} before decls made) (record { all = h.all; few = omega (arith, h.few) })
parts-small e limit before decls (p ∷ ps) all h made =
    let a = then_ok (λ more. parts_from e more ps) (declared_from (value_from e p.imports) p.file before p.constants) decls made in
    let first = declared-small (value_from e p.imports) p.file limit before a.0 p.constants all.0.some_file all.0.file all.0.constants h a.1 in
    let rest = parts-small e (limit + length p.constants) a.0 decls ps all.1 first a.2 in
    let count : length (names (p ∷ ps)) ≡ length p.constants + length (names ps) = length-append (map (λ c. c.name) p.constants) (names ps) ∙ ap (λ n. n + length (names ps)) (as_long (λ (c : ConstantSum). c.name) p.constants) in
    record { all = rest.all; few = omega (arith, rest.few, count) }

-- ---- exports

pub record IsExportOf (e : Environment) (f : Form) (export : Export) : Type 0 where
  pub decls : parts_from e empty f.parts ≡ Ok export.decls
  pub whole : exported f export.decls ≡ export

pub is_export : (e : Environment) (f : Form) (export : Export) → verdict e f ≡ Ok export → IsExportOf e f export
unfolding verdict
is_export e f export is =
    let a = then_ok (λ decls. and_then (λ _. Ok (exported f decls)) (all_used f.parts)) (parts_from e empty f.parts) export is in
    let b = then_ok (λ _. Ok (exported f a.0)) (all_used f.parts) export a.2 in
    let same : exported f a.0 ≡ export = ok_is {E = Fault} (exported f a.0) export b.2 in
    record { decls = a.1 ∙ ap (λ (x : Export). Ok x.decls) same; whole = ap (λ (x : Export). exported f x.decls) (sym same) ∙ same }

export-fits : (f : Form) (decls : Declarations) → IsSmallForm f → IsSmallMap (length (names f.parts)) decls → IsSmallExport (exported f decls)
export-fits f decls small m = record {
  is_path = small.is_path;
  is_name = small.is_name;
  path = small.path;
  name = small.name;
  few = omega (arith, m.few, small.few);
  entries = m.all;
}

pub exports-small : ExportsAreSmall
exports-small e f export small is =
    let x = is_export e f export is in
    let m = parts-small e 0 empty export.decls f.parts small.parts empty-small x.decls in
    subst IsSmallExport x.whole (export-fits f export.decls small (record { all = m.all; few = omega (arith, m.few) }))

pub export-path : ExportHasPath
export-path e f export is = ap (λ (x : Export). x.path) (sym (is_export e f export is).whole)
