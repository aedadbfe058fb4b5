use Rattle.std.proofs.Common.{◌+◌, ◌-◌, ◌*◌, ℕ, List, ◌∷◌, ap, arith, sym, ◌∙◌}
use Rattle.ui_frame.specs.Opening.{words_at}
use Rattle.ui_frame.proofs.Words.{ascends-step, last_from-step, words_at-next}
use Rattle.ui_frame.proofs.frame.last_ascending.Goals as goal

pub loop-i-preserved : goal.loop-i-preserved
loop-i-preserved c =
    let bytes : List ℕ = c.args.bytes.now in
    let rest : List ℕ = words_at (c.args.count - (c.loop-i.i + 1)) (c.args.place + 4 * (c.loop-i.i + 1)) bytes in
    let next = words_at-next c.args.count c.args.place c.loop-i.i bytes (omega arith) ∙ ap (λ (n : ℕ). n ∷ rest) (sym c.read_word-next.ensures) in
    record {
      same_order = ascends-step c.loop-i.last c.read_word-next.result _ rest _ next (omega arith) c.loop-i.invariant.same_order;
      same_last = last_from-step c.loop-i.last c.read_word-next.result _ rest _ next c.loop-i.invariant.same_last;
    }
