use Rattle.std.proofs.Common.{◌∙◌, ap, sym, subst, arith, map, string_bytes, Option}
use Rattle.std.proofs.lemmas.List.{take_all}
use Rattle.std.proofs.lemmas.Result.{err_from_is_err_and}
use Rattle.ui_store.specs.Files.{Files}
use Rattle.ui_build.specs.Stops.{state}
use Rattle.ui_build.specs.Heard.{CompilesAll}
use Rattle.ui_build.proofs.Hearing as heard
use Rattle.ui_build.proofs.Reading.{nothing_left}
use Rattle.ui_build.proofs.Ordered.{CompilesOn, compiles_first, compiles_last, compiled_next, compiled_stop}
use Rattle.ui_build.proofs.compiling.compile_all.Goals as goal

pub loop-path-init : goal.loop-path-init
loop-path-init g c = record {
  on = λ files at sorted few.
      let P : Option Files → Type 0 = λ f. CompilesOn files c.args.order.now (state f (g.S.Store.told c.args.store.now).asked) 0 (state f (g.S.Store.told c.args.store.now).asked) in
      subst P (sym at) (compiles_first files c.args.order.now (g.S.Store.told c.args.store.now).asked sorted);
  heard = heard.compiled_first c.args.order.now (g.S.Store.told c.args.store.now).heard;
  count = omega arith;
}

pub loop-path-preserved : goal.loop-path-preserved
loop-path-preserved g c =
    let here = c.as_str.ensures.value ∙ ap string_bytes c.path-item.is in
    record {
      on = λ files at sorted few.
          compiled_next files c.args.order.now (state (g.S.Store.told c.args.store.now).files (g.S.Store.told c.args.store.now).asked) (state (g.S.Store.told c.loop-path.store).files (g.S.Store.told c.loop-path.store).asked) (state (g.S.Store.told c.compile.new.store).files (g.S.Store.told c.compile.new.store).asked) c.loop-path.path-index c.path-item.result c.as_str.result.now c.in_ok-compile.field-0
          (omega arith) few here c.in_ok-compile.ensures.does c.in_ok-compile.ensures.stands (c.loop-path.invariant.on files at sorted few);
      heard = heard.compiled_next _ c.args.order.now c.loop-path.path-index c.path-item.result c.in_ok-compile.field-0 _ _ _ (omega arith) c.loop-path.invariant.heard (rw here at c.in_ok-compile.ensures.heard);
      count = omega (arith, c.in_ok-compile.ensures.cause.later);
    }

pub returns-in_err-compile-clause-does : goal.returns-in_err-compile-clause-does
returns-in_err-compile-clause-does g c =
    let p = err_from_is_err_and c.from_residual.result c.from_residual.ensures.1 in
    let here = c.as_str.ensures.value ∙ ap string_bytes c.path-item.is in
    λ files at sorted few.
    rw (p.1, p.2)
    (compiled_stop files c.args.order.now (state (g.S.Store.told c.args.store.now).files (g.S.Store.told c.args.store.now).asked) (state (g.S.Store.told c.loop-path.store).files (g.S.Store.told c.loop-path.store).asked) (state (g.S.Store.told c.compile.new.store).files (g.S.Store.told c.compile.new.store).asked) c.loop-path.path-index c.path-item.result c.as_str.result.now c.in_err-compile.field-0.0
    (omega arith) few here c.in_err-compile.ensures.does (c.loop-path.invariant.on files at sorted few))

pub returns-clause-does : goal.returns-clause-does
returns-clause-does g c =
    λ files at sorted few.
    compiles_last files c.args.order.now (state (g.S.Store.told c.args.store.now).files (g.S.Store.told c.args.store.now).asked) (state (g.S.Store.told c.loop-path.store).files (g.S.Store.told c.loop-path.store).asked) c.loop-path.path-index (nothing_left c.args.order.now c.loop-path.path-index (omega arith)) (c.loop-path.invariant.on files at sorted few)

pub returns-in_err-compile-clause-heard : goal.returns-in_err-compile-clause-heard
returns-in_err-compile-clause-heard g c =
    let p = err_from_is_err_and c.from_residual.result c.from_residual.ensures.1 in
    let here = c.as_str.ensures.value ∙ ap string_bytes c.path-item.is in
    rw (p.1, p.2)
    (heard.compiled_stop _ (λ (u : Unit {0}). CompilesAll (map string_bytes c.args.order.now)) c.args.order.now c.loop-path.path-index c.path-item.result c.in_err-compile.field-0.0 _ _ _
    (omega arith) c.loop-path.invariant.heard (rw here at c.in_err-compile.ensures.heard))

pub returns-clause-heard : goal.returns-clause-heard
returns-clause-heard g c = heard.compiled_last tt c.args.order.now c.loop-path.path-index _ _ (take_all c.loop-path.path-index c.args.order.now (omega arith)) c.loop-path.invariant.heard
