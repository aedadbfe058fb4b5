use Rattle.std.proofs.Common.{◌<◌, ℕ, ◌++◌, [], List, length, get_or, sym, ap, ◌∙◌, arith, append_assoc}
use Rattle.std.specs.Prelude.{codes}
use Rattle.ui_frame.specs.Container.{section}
use Rattle.ui_listing.specs.Listing.{element_line, lines_from, pair_line}
use Rattle.ui_listing.proofs.Lines.{lines_more}
use Rattle.ui_listing.proofs.listing.put_elements.Goals as goal

pub loop-k-preserved : goal.loop-k-preserved
loop-k-preserved c =
    let list = section c.args.s c.args.frame.now in
    let k : ℕ = c.loop-k.k in
    let less : k < length list =
    (let n = c.loop-k-test.true in let m = c.count-k-end.ensures in omega arith) in
    let line : List ℕ = element_line k (get_or list k []) in
    c.in_ok-put_pair.ensures
    ∙ ap (λ (n : ℕ). c.loop-k.out.items ++ pair_line (codes "  ") k n) c.element_length.ensures
    ∙ ap (λ (xs : List ℕ). xs ++ line) c.loop-k.invariant
    ∙ append_assoc c.args.out.now.items (lines_from 0 _) line
    ∙ sym (ap (λ (xs : List ℕ). c.args.out.now.items ++ xs) (lines_more list k less))
