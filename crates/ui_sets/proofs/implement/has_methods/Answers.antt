use Rattle.std.proofs.Common.{◌+◌, arith, ap, sym, subst, ◌∙◌, drop, Bool, Ok}
use Rattle.ui_types.specs.Trees.{Grows-trans}
use Rattle.ui_sets.specs.Needed.{Needs, ◌>>=◌, Refuses, fault_of, refuses_then}
use Rattle.ui_sets.specs.Methods.{or_lacks}
use Rattle.ui_sets.proofs.Lacking.{lacking_from, lacking_at}
use Rattle.ui_sets.proofs.implement.has_methods.Goals as goal

pub loop-method-preserved : goal.loop-method-preserved
loop-method-preserved c =
    let at = lacking_at c.args.site.now c.args.methods.now c.loop-method.method-index
    c.method-item.result c.loop-method.invariant.0 c.requires.site c.requires.sigs
    c.loop-method-test.true c.method-item.is in
    let rest = lacking_from c.args.table.now c.args.site.now
    (drop (c.loop-method.method-index + 1) c.args.methods.now) in
    let found = c.in_ok-find_one.ensures.answer ∙ ap (λ (b : Bool). let r : Needs Bool = Ok b in r)
    c.if-not-branch.false in (
      Grows-trans c.loop-method.invariant.0 c.find_one.ensures.grows,
      sym
          (ap (λ (r : Needs Bool). r >>= or_lacks c.method-item.result.name rest) found) ∙ sym at
          ∙ c.loop-method.invariant.1,
    )

pub returns-then-not-branch-clause-answer : goal.returns-then-not-branch-clause-answer
returns-then-not-branch-clause-answer c =
    let at = lacking_at c.args.site.now c.args.methods.now c.loop-method.method-index
    c.method-item.result c.loop-method.invariant.0 c.requires.site c.requires.sigs
    c.loop-method-test.true c.method-item.is in
    let rest = lacking_from c.args.table.now c.args.site.now
    (drop (c.loop-method.method-index + 1) c.args.methods.now) in
    let found = c.in_ok-find_one.ensures.answer ∙ ap (λ (b : Bool). let r : Needs Bool = Ok b in r)
    c.if-not-branch.true in
    let whole = sym c.loop-method.invariant.1 ∙ at ∙ ap (λ (r : Needs Bool). r
    >>= or_lacks c.method-item.result.name rest) found in
    subst (λ (w : Needs (Unit {0})). Refuses (fault_of w) c.no_method.result) (sym whole)
    c.no_method.ensures

pub returns-in_err-find_one-clause-answer : goal.returns-in_err-find_one-clause-answer
returns-in_err-find_one-clause-answer c =
    let at = lacking_at c.args.site.now c.args.methods.now c.loop-method.method-index
    c.method-item.result c.loop-method.invariant.0 c.requires.site c.requires.sigs
    c.loop-method-test.true c.method-item.is in
    let rest = lacking_from c.args.table.now c.args.site.now
    (drop (c.loop-method.method-index + 1) c.args.methods.now) in
    let whole = sym c.loop-method.invariant.1 ∙ at in
    rw whole (grind (arith, refuses_then))
