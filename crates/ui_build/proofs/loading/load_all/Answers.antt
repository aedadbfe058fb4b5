use Rattle.std.proofs.Common.{refl, ◌∙◌, ◌+◌, ◌++◌, ap, arith, string_bytes, map, [], ◌∷◌, ◌≡◌, true}
use Rattle.std.proofs.lemmas.Result.{err_from_is_err_and}
use Rattle.ui_base.specs.Paths.{is_path}
use Rattle.std.proofs.lemmas.List.{take_all}
use Rattle.ui_build.specs.Heard.{LoadsImports}
use Rattle.ui_build.specs.Refused.{BadImports}
use Rattle.ui_build.specs.Views.{loaded_of, imports_of}
use Rattle.ui_build.specs.declared.loading.Imports.{Imports}
use Rattle.ui_build.proofs.Hearing.{loaded_first, loaded_next, loaded_stop, loaded_none, loaded_last}
use Rattle.ui_build.specs.Stops.{state}
use Rattle.ui_build.proofs.Reading.{nothing_left}
use Rattle.ui_build.proofs.LoadingAll.{goes_next, goes_stop, goes_none, goes_last, path_more, paired_more, sound_more, valid_at}
use Rattle.ui_build.proofs.loading.load_all.Goals as goal

pub returns-in_err-loaded-clause-does : goal.returns-in_err-loaded-clause-does
returns-in_err-loaded-clause-does g c =
    let p = err_from_is_err_and c.from_residual.result c.from_residual.ensures.1 in
    let here = c.as_str.ensures.value ∙ ap string_bytes c.path-item.is in
    rw (p.1, p.2)
    (goes_stop c.args.paths.now (state (g.S.Store.told c.args.store.now).files (g.S.Store.told c.args.store.now).asked) (g.S.Store.told c.loop-path.store).files (g.S.Store.told c.loop-path.store).asked (state (g.S.Store.told c.load.new.store).files (g.S.Store.told c.load.new.store).asked) c.loop-path.path-index c.path-item.result (c.loop-path.files.items, c.loop-path.prints.items) c.in_err-loaded.field-0.0
    (omega arith) c.loop-path.invariant.rest (rw here at c.in_err-loaded.ensures.does))

pub returns-in_err-push-clause-does : goal.returns-in_err-push-clause-does
returns-in_err-push-clause-does g c =
    let p = err_from_is_err_and c.from_residual-in_err-push.result c.from_residual-in_err-push.ensures.1 in
    let here = c.as_str.ensures.value ∙ ap string_bytes c.path-item.is in
    let l = c.in_ok-loaded.loaded in
    rw (p.1, p.2)
    (goes_none c.args.paths.now (state (g.S.Store.told c.args.store.now).files (g.S.Store.told c.args.store.now).asked) (g.S.Store.told c.load.new.store).files (g.S.Store.told c.load.new.store).asked (c.loop-path.path-index + 1) (c.loop-path.files.items ++ l.linked ∷ [], c.loop-path.prints.items ++ l.print ∷ [])
    (goes_next c.args.paths.now (state (g.S.Store.told c.args.store.now).files (g.S.Store.told c.args.store.now).asked) (g.S.Store.told c.loop-path.store).files (g.S.Store.told c.load.new.store).files (g.S.Store.told c.loop-path.store).asked (g.S.Store.told c.load.new.store).asked c.loop-path.path-index c.path-item.result (c.loop-path.files.items, c.loop-path.prints.items) l
    (omega arith) c.in_ok-loaded.ensures.files c.loop-path.invariant.rest (rw here at c.in_ok-loaded.ensures.does)))

pub returns-in_err-push-2-clause-does : goal.returns-in_err-push-2-clause-does
returns-in_err-push-2-clause-does g c =
    let p = err_from_is_err_and c.from_residual-in_err-push-2.result c.from_residual-in_err-push-2.ensures.1 in
    let here = c.as_str.ensures.value ∙ ap string_bytes c.path-item.is in
    let l = c.in_ok-loaded.loaded in
    rw (p.1, p.2)
    (goes_none c.args.paths.now (state (g.S.Store.told c.args.store.now).files (g.S.Store.told c.args.store.now).asked) (g.S.Store.told c.load.new.store).files (g.S.Store.told c.load.new.store).asked (c.loop-path.path-index + 1) (c.loop-path.files.items ++ l.linked ∷ [], c.loop-path.prints.items ++ l.print ∷ [])
    (goes_next c.args.paths.now (state (g.S.Store.told c.args.store.now).files (g.S.Store.told c.args.store.now).asked) (g.S.Store.told c.loop-path.store).files (g.S.Store.told c.load.new.store).files (g.S.Store.told c.loop-path.store).asked (g.S.Store.told c.load.new.store).asked c.loop-path.path-index c.path-item.result (c.loop-path.files.items, c.loop-path.prints.items) l
    (omega arith) c.in_ok-loaded.ensures.files c.loop-path.invariant.rest (rw here at c.in_ok-loaded.ensures.does)))

pub loop-path-init : goal.loop-path-init
loop-path-init g c = rw (c.new-files.ensures.items, c.new-prints.ensures.items) (record { rest = λ new r d. d; same = refl; count = omega arith; paths = refl; paired = refl; sound = refl; heard = loaded_first c.args.paths.now (g.S.Store.told c.args.store.now).heard })

pub loop-path-preserved : goal.loop-path-preserved
loop-path-preserved g c =
    let here = c.as_str.ensures.value ∙ ap string_bytes c.path-item.is in
    let l = c.in_ok-loaded.loaded in
    let files = c.loop-path.files.items in
    let prints = c.loop-path.prints.items in
    let valid : is_path l.linked.export.path ≡ true = ap is_path (c.in_ok-loaded.ensures.own ∙ here) ∙ valid_at c.args.paths.now c.loop-path.path-index c.path-item.result (omega arith) c.requires in
    rw (c.in_ok-push.ensures.items, c.in_ok-push-2.ensures.items) (record {
      rest = goes_next c.args.paths.now (state (g.S.Store.told c.args.store.now).files (g.S.Store.told c.args.store.now).asked) (g.S.Store.told c.loop-path.store).files (g.S.Store.told c.load.new.store).files (g.S.Store.told c.loop-path.store).asked (g.S.Store.told c.load.new.store).asked c.loop-path.path-index c.path-item.result (files, prints) l
          (omega arith) c.in_ok-loaded.ensures.files c.loop-path.invariant.rest (rw here at c.in_ok-loaded.ensures.does);
      same = c.in_ok-loaded.ensures.files ∙ c.loop-path.invariant.same;
      count = omega (arith, c.in_ok-loaded.ensures.cause.later);
      paths = path_more c.args.paths.now c.loop-path.path-index c.path-item.result files l.linked (omega arith) c.loop-path.invariant.paths (c.in_ok-loaded.ensures.own ∙ here);
      paired = paired_more files prints l.linked l.print c.loop-path.invariant.paired;
      heard = loaded_next loaded_of _ c.args.paths.now c.loop-path.path-index c.path-item.result (files, prints) l _ _ _ (omega arith) c.loop-path.invariant.heard (rw here at c.in_ok-loaded.ensures.heard);
      sound = sound_more files prints l.linked l.print c.loop-path.invariant.paired c.loop-path.invariant.sound c.in_ok-loaded.ensures.listed valid c.has_eight.ensures;
    })

pub returns-clause-does : goal.returns-clause-does
returns-clause-does g c =
    goes_last c.args.paths.now (state (g.S.Store.told c.args.store.now).files (g.S.Store.told c.args.store.now).asked) (g.S.Store.told c.loop-path.store).files (g.S.Store.told c.loop-path.store).asked c.loop-path.path-index (record { files = c.loop-path.files; prints = c.loop-path.prints }) (nothing_left c.args.paths.now c.loop-path.path-index (omega arith)) c.loop-path.invariant.rest

pub returns-in_err-loaded-clause-heard : goal.returns-in_err-loaded-clause-heard
returns-in_err-loaded-clause-heard g c =
    let p = err_from_is_err_and c.from_residual.result c.from_residual.ensures.1 in
    let there = c.as_str.ensures.value ∙ ap string_bytes c.path-item.is in
    rw (p.1, p.2)
    (loaded_stop _ (λ (i : Imports). LoadsImports (map string_bytes c.args.paths.now) (imports_of i)) c.args.paths.now c.loop-path.path-index c.path-item.result (c.loop-path.files.items, c.loop-path.prints.items) c.in_err-loaded.field-0.0 _ _ _
    (omega arith) c.loop-path.invariant.heard (rw there at c.in_err-loaded.ensures.heard))

pub returns-in_err-push-clause-heard : goal.returns-in_err-push-clause-heard
returns-in_err-push-clause-heard g c =
    let p = err_from_is_err_and c.from_residual-in_err-push.result c.from_residual-in_err-push.ensures.1 in
    let there = c.as_str.ensures.value ∙ ap string_bytes c.path-item.is in
    rw (p.1, p.2)
    (loaded_none (λ (i : Imports). LoadsImports (map string_bytes c.args.paths.now) (imports_of i)) (BadImports (map string_bytes c.args.paths.now)) c.args.paths.now (c.loop-path.path-index + 1) _ (g.S.Store.told c.args.store.now).heard _
    (loaded_next loaded_of _ c.args.paths.now c.loop-path.path-index c.path-item.result (c.loop-path.files.items, c.loop-path.prints.items) c.in_ok-loaded.loaded _ _ _ (omega arith) c.loop-path.invariant.heard (rw there at c.in_ok-loaded.ensures.heard)))

pub returns-in_err-push-2-clause-heard : goal.returns-in_err-push-2-clause-heard
returns-in_err-push-2-clause-heard g c =
    let p = err_from_is_err_and c.from_residual-in_err-push-2.result c.from_residual-in_err-push-2.ensures.1 in
    let there = c.as_str.ensures.value ∙ ap string_bytes c.path-item.is in
    rw (p.1, p.2)
    (loaded_none (λ (i : Imports). LoadsImports (map string_bytes c.args.paths.now) (imports_of i)) (BadImports (map string_bytes c.args.paths.now)) c.args.paths.now (c.loop-path.path-index + 1) _ (g.S.Store.told c.args.store.now).heard _
    (loaded_next loaded_of _ c.args.paths.now c.loop-path.path-index c.path-item.result (c.loop-path.files.items, c.loop-path.prints.items) c.in_ok-loaded.loaded _ _ _ (omega arith) c.loop-path.invariant.heard (rw there at c.in_ok-loaded.ensures.heard)))

pub returns-clause-heard : goal.returns-clause-heard
returns-clause-heard g c =
    loaded_last imports_of (record { files = c.loop-path.files; prints = c.loop-path.prints }) c.args.paths.now c.loop-path.path-index _ _ (take_all c.loop-path.path-index c.args.paths.now (omega arith)) c.loop-path.invariant.heard
