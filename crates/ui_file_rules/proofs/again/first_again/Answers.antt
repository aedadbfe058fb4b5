use Rattle.std.proofs.Common.{◌<◌, Bool, length, subst, arith}
use Rattle.ui_file_rules.specs.Seen.{seen_of, IsInserted}
use Rattle.ui_file_rules.proofs.Seeing.{found-again, more-seen}
use Rattle.ui_file_rules.proofs.again.first_again.Goals as goal

pub returns-then-branch : goal.returns-then-branch
returns-then-branch g c =
    let lt : c.loop-k.k < length c.args.items.now = omega arith in
    found-again g.T.PartialEq.eq c.requires c.args.items.now (seen_of c.loop-k.seen.keys)
    (seen_of c.insert_new.new.seen.keys) c.loop-k.k c.index-items-k.result lt
    c.index-items-k.is c.loop-k.invariant
    (subst (λ (b : Bool). IsInserted g.T.PartialEq.eq (seen_of c.loop-k.seen.keys)
    (seen_of c.insert_new.new.seen.keys) c.index-items-k.result b) c.if-branch.true
    c.in_ok-insert_new.ensures)

pub loop-k-preserved : goal.loop-k-preserved
loop-k-preserved g c =
    let lt : c.loop-k.k < length c.args.items.now = omega arith in
    more-seen g.T.PartialEq.eq c.requires c.args.items.now (seen_of c.loop-k.seen.keys)
    (seen_of c.insert_new.new.seen.keys) c.loop-k.k c.index-items-k.result lt
    c.index-items-k.is c.loop-k.invariant
    (subst (λ (b : Bool). IsInserted g.T.PartialEq.eq (seen_of c.loop-k.seen.keys)
    (seen_of c.insert_new.new.seen.keys) c.index-items-k.result b) c.if-branch.false
    c.in_ok-insert_new.ensures)
