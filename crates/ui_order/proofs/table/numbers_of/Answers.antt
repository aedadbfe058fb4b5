use Rattle.std.specs.Prelude.{◌≡◌, ◌<◌, true, nat_eq, map, length, string_bytes, bytes_eq}
use Rattle.std.proofs.Common.{◌∙◌, ap, sym, subst, inl, inr}
use Rattle.std.proofs.lemmas.Bool.{false≢true}
use Rattle.ui_order.specs.Steps.{has}
use Rattle.ui_order.specs.Numbered.{names, path_at}
use Rattle.ui_order.proofs.PlanLemmas.{has_one}
use Rattle.ui_order.proofs.NameLemmas.{numbers_more, found_number, any_named, has_text}
use Rattle.ui_order.proofs.table.numbers_of.Goals as goal

pub unreachable-requires : goal.unreachable-requires
unreachable-requires c =
    let q = c.as_str.result.now in
    let asked : has bytes_eq (map string_bytes c.args.imports.now) q ≡ true =
    ap (λ x. has bytes_eq (map string_bytes c.args.imports.now) x) c.as_str.ensures.value ∙ has_text c.args.imports.now c.loop-import.import-index c.import-item.result c.loop-import-test.true c.import-item.is in
    false≢true (c.in-None.ensures.found ∙ any_named q c.args.paths.now.keys ∙ c.requires q asked)

pub loop-import-preserved : goal.loop-import-preserved
loop-import-preserved c =
    let q = c.as_str.result.now in
    let found = found_number c.args.paths.now.keys q c.in-Some.i c.in-Some.field-0-1.now c.in-Some.ensures.stored c.in-Some.ensures.key in
    let all = names c.args.paths.now in
    record {
      paths = ap (map (path_at all)) c.in_ok-push-in-Some.ensures.items
          ∙ numbers_more all c.loop-import.numbers.items c.in-Some.i c.args.imports.now c.loop-import.import-index c.import-item.result c.loop-import-test.true c.import-item.is c.loop-import.invariant.paths (found.0 ∙ c.as_str.ensures.value);
      small = λ j h. elim (has_one c.loop-import.numbers.items c.in-Some.i j (ap (λ xs. has nat_eq xs j) (sym c.in_ok-push-in-Some.ensures.items) ∙ h)) [
        | inl o ↦ c.loop-import.invariant.small j o
        | inr o ↦ subst (λ x. x < length all) (sym o) found.1
      ];
    }
