use Rattle.std.proofs.Common.{◌≡◌, List, refl, sym, ap, ◌∙◌, rules, subst}
use Rattle.std.specs.Prelude.{None}
use Rattle.ui_types.specs.Ty.{Ty}
use Rattle.ui_types.specs.Table.{AreIds, trees}
use Rattle.ui_infer.specs.declared.binding.Binding.{Binding}
use Rattle.ui_infer.specs.declared.known.Known.{Known}
use Rattle.ui_infer.specs.Faults.{Infers, Gives}
use Rattle.ui_infer.specs.Bindings.{known_from, solved}
use Rattle.ui_infer.specs.Shown.{all_known, shown_bindings, shown_bound}
use Rattle.ui_infer.proofs.KnownLemmas.{known_all, verdict_solved}
use Rattle.ui_infer.proofs.PairLemmas.{no_unknown}
use Rattle.ui_infer.proofs.inference.verdict.Goals as goal

pub returns-in-Ok : goal.returns-in-Ok
returns-in-Ok c =
    let table = c.args.table.now in
    let entries : c.as_slice.result.now ≡ c.args.bound.now.entries.items = search rules in
    let known : c.as_slice-in-Ok.result.now ≡ c.in-Ok.known.items = search rules in
    let none : c.args.bound.now.mismatch ≡ None = no_unknown c.args.bound.now.mismatch _ refl
    c.in_default.not-Some in
    let all : all_known table c.in-Ok.known.items
    ≡ known_from 0 c.args.count (shown_bindings table c.args.bound.now.entries.items) =
    known_all table c.in-Ok.known.items c.args.count (shown_bindings table c.as_slice.result.now)
    c.in-Ok.ensures.many c.in-Ok.ensures.value
    ∙ ap (λ (es : List Binding). known_from 0 c.args.count (shown_bindings table es)) entries in
    let whole = verdict_solved table c.in-Ok.known.items c.args.count
    (shown_bound table c.args.bound.now) none all in
    let from : solved (all_known table c.as_slice-in-Ok.result.now)
    ≡ solved (all_known table c.in-Ok.known.items) = ap
    (λ (ks : List Known). solved (all_known table ks)) known in
    subst (λ (w : Infers (List Ty)). Gives table (AreIds table) (trees table) w c.solved.result)
    (from ∙ sym whole) c.solved.ensures
