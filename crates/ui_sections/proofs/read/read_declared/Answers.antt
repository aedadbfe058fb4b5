use Rattle.std.proofs.Common.{List, Ok, sym, ap, ◌∙◌}
use Rattle.std.proofs.lemmas.Result.{err_from_is_err_and}
use Rattle.ui_edecl.specs.declared.object.ObjEl.{ObjEl}
use Rattle.ui_sections.proofs.Stages.{bodies_fail, declared_read}
use Rattle.ui_sections.proofs.read.read_declared.Goals as goal

pub returns-in_err-test_bodies-clause-read : goal.returns-in_err-test_bodies-clause-read
returns-in_err-test_bodies-clause-read c =
    let told = err_from_is_err_and c.from_residual-in_err-test_bodies.result
    c.from_residual-in_err-test_bodies.ensures.1 in
    rw (told.1, told.2)
    (bodies_fail c.args.frame.now c.in_err-test_bodies.field-0.0 c.args.names.now
    c.deref.result.now c.in_ok-extensions.extensions.items c.in_ok-dictionaries.dictionaries.items
    (c.in_ok-objects.ensures.read
    ∙ ap (λ (os : List ObjEl). Ok os) (sym c.deref.ensures.value))
    c.in_ok-extensions.ensures.read c.in_ok-dictionaries.ensures.read
    c.in_err-test_bodies.ensures.read)

pub returns-clause-read : goal.returns-clause-read
returns-clause-read c =
    declared_read c.args.frame.now c.args.names.now c.deref.result.now
    c.in_ok-extensions.extensions.items c.in_ok-dictionaries.dictionaries.items
    (c.in_ok-objects.ensures.read
    ∙ ap (λ (os : List ObjEl). Ok os) (sym c.deref.ensures.value))
    c.in_ok-extensions.ensures.read c.in_ok-dictionaries.ensures.read
    c.in_ok-test_bodies.ensures.read
    ∙ (λ i. Ok (record {
      objects = (c.deref.ensures.value ∙ sym c.new.ensures) i;
      extensions = sym c.new-2.ensures i;
      dictionaries = sym c.new-3.ensures i;
    }))
