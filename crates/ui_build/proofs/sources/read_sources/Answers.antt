use Rattle.std.proofs.Common.{◌≡◌, refl, ◌∙◌, ◌+◌, ◌++◌, ap, sym, subst, arith, string_bytes, map, List, [], ◌∷◌}
use Rattle.std.proofs.lemmas.List.{map-append}
use Rattle.std.proofs.lemmas.Result.{err_from_is_err_and}
use Rattle.ui_sources.specs.Sources.{SourceFile, source_of}
use Rattle.ui_build.specs.Package.{is_source, file_in}
use Rattle.ui_build.specs.Sources.{sources_of}
use Rattle.ui_build.specs.Stops.{state}
use Rattle.ui_build.proofs.Reading.{Continues, continues_first, continues_past, continues_next, continues_stop, continues_none, continues_last, nothing_left}
use Rattle.std.specs.Prelude.{filter, Vec}
use Rattle.std.specs.declared.alloc.Global.{Global}
use Rattle.std.proofs.lemmas.List.{take_all}
use Rattle.ui_build.specs.Heard.{HasRead, ReadsSources}
use Rattle.ui_build.specs.Refused.{LacksFile, LacksSource}
use Rattle.ui_sources.specs.declared.source.SourceFile.{SourceFile as InMemory}
use Rattle.ui_build.proofs.Hearing.{ReadSoFar, so_far_first, so_far_past, so_far_next, so_far_stop, so_far_none, so_far_last}
use Rattle.ui_build.proofs.sources.read_sources.Goals as goal

pub loop-name-preserved-then-not-is_source : goal.loop-name-preserved-then-not-is_source
loop-name-preserved-then-not-is_source g c =
    let here = c.as_str.ensures.value ∙ ap string_bytes c.name-item.is in
    record {
      files = c.loop-name.invariant.files;
      heard = so_far_past c.args.folder.now c.args.names.now c.loop-name.name-index c.name-item.result (sources_of c.loop-name.sources) _ _ (omega arith) (sym (ap is_source here) ∙ sym c.if-not-is_source.ensures) c.loop-name.invariant.heard;
      count = c.loop-name.invariant.count;
      rest = continues_past c.args.folder.now c.args.names.now (state (g.S.Store.told c.args.store.now).files (g.S.Store.told c.args.store.now).asked) (state (g.S.Store.told c.loop-name.store).files (g.S.Store.told c.loop-name.store).asked) c.loop-name.name-index c.name-item.result (sources_of c.loop-name.sources) (omega arith) (sym (ap is_source here) ∙ sym c.if-not-is_source.ensures) c.loop-name.invariant.rest;
    }

pub loop-name-preserved : goal.loop-name-preserved
loop-name-preserved g c =
    let here = c.as_str.ensures.value ∙ ap string_bytes c.name-item.is in
    let there = c.as_str-in-loop-name.ensures.value ∙ ap string_bytes c.name-item.is in
    let P : List SourceFile → Type 0 = λ ss. Continues c.args.folder.now c.args.names.now (state (g.S.Store.told c.args.store.now).files (g.S.Store.told c.args.store.now).asked) (c.loop-name.name-index + 1) ss (state (g.S.Store.told c.read_source.new.store).files (g.S.Store.told c.read_source.new.store).asked) in
    let Q : List SourceFile → Type 0 = λ ss. ReadSoFar c.args.folder.now c.args.names.now (c.loop-name.name-index + 1) ss (g.S.Store.told c.args.store.now).heard (g.S.Store.told c.read_source.new.store).heard in
    record {
      files = c.in_ok-source.ensures.files ∙ c.loop-name.invariant.files;
      heard = subst Q (sym (ap (map source_of) c.in_ok-push.ensures.items ∙ map-append source_of c.loop-name.sources.items (c.in_ok-source.source ∷ [])))
          (so_far_next source_of (LacksFile (file_in c.args.folder.now c.as_str-in-loop-name.result.now)) c.args.folder.now c.args.names.now c.loop-name.name-index c.name-item.result (sources_of c.loop-name.sources) c.in_ok-source.source _ _ _
          (omega arith) (sym (ap is_source here) ∙ sym c.if-not-is_source.ensures) (rw there at c.in_ok-source.ensures.name) c.loop-name.invariant.heard c.in_ok-source.ensures.heard);
      count = omega (arith, c.in_ok-source.ensures.cause.later);
      rest = subst P (sym (ap (map source_of) c.in_ok-push.ensures.items ∙ map-append source_of c.loop-name.sources.items (c.in_ok-source.source ∷ [])))
          (continues_next c.args.folder.now c.args.names.now (state (g.S.Store.told c.args.store.now).files (g.S.Store.told c.args.store.now).asked) (g.S.Store.told c.loop-name.store).files (g.S.Store.told c.read_source.new.store).files (g.S.Store.told c.loop-name.store).asked (g.S.Store.told c.read_source.new.store).asked c.loop-name.name-index c.name-item.result (sources_of c.loop-name.sources) c.in_ok-source.source
          (omega arith) (sym (ap is_source here) ∙ sym c.if-not-is_source.ensures) c.in_ok-source.ensures.files c.loop-name.invariant.rest (rw there at c.in_ok-source.ensures.does));
    }

pub returns-in_err-source-clause-does : goal.returns-in_err-source-clause-does
returns-in_err-source-clause-does g c =
    let p = err_from_is_err_and c.from_residual.result c.from_residual.ensures.1 in
    let here = c.as_str.ensures.value ∙ ap string_bytes c.name-item.is in
    let there = c.as_str-in-loop-name.ensures.value ∙ ap string_bytes c.name-item.is in
    rw (p.1, p.2)
    (continues_stop c.args.folder.now c.args.names.now (state (g.S.Store.told c.args.store.now).files (g.S.Store.told c.args.store.now).asked) (g.S.Store.told c.loop-name.store).files (g.S.Store.told c.loop-name.store).asked (state (g.S.Store.told c.read_source.new.store).files (g.S.Store.told c.read_source.new.store).asked) c.loop-name.name-index c.name-item.result (sources_of c.loop-name.sources) c.in_err-source.field-0.0
    (omega arith) (sym (ap is_source here) ∙ sym c.if-not-is_source.ensures) c.loop-name.invariant.rest (rw there at c.in_err-source.ensures.does))

pub returns-in_err-push-clause-does : goal.returns-in_err-push-clause-does
returns-in_err-push-clause-does g c =
    let p = err_from_is_err_and c.from_residual-in_err-push.result c.from_residual-in_err-push.ensures.1 in
    let here = c.as_str.ensures.value ∙ ap string_bytes c.name-item.is in
    let there = c.as_str-in-loop-name.ensures.value ∙ ap string_bytes c.name-item.is in
    let P : List SourceFile → Type 0 = λ ss. Continues c.args.folder.now c.args.names.now (state (g.S.Store.told c.args.store.now).files (g.S.Store.told c.args.store.now).asked) (c.loop-name.name-index + 1) ss (state (g.S.Store.told c.read_source.new.store).files (g.S.Store.told c.read_source.new.store).asked) in
    rw (p.1, p.2)
    (continues_none c.args.folder.now c.args.names.now (state (g.S.Store.told c.args.store.now).files (g.S.Store.told c.args.store.now).asked) (g.S.Store.told c.read_source.new.store).files (g.S.Store.told c.read_source.new.store).asked (c.loop-name.name-index + 1) (sources_of c.loop-name.sources ++ source_of c.in_ok-source.source ∷ [])
    (continues_next c.args.folder.now c.args.names.now (state (g.S.Store.told c.args.store.now).files (g.S.Store.told c.args.store.now).asked) (g.S.Store.told c.loop-name.store).files (g.S.Store.told c.read_source.new.store).files (g.S.Store.told c.loop-name.store).asked (g.S.Store.told c.read_source.new.store).asked c.loop-name.name-index c.name-item.result (sources_of c.loop-name.sources) c.in_ok-source.source
    (omega arith) (sym (ap is_source here) ∙ sym c.if-not-is_source.ensures) c.in_ok-source.ensures.files c.loop-name.invariant.rest (rw there at c.in_ok-source.ensures.does)))

pub returns-clause-does : goal.returns-clause-does
returns-clause-does g c =
    continues_last c.args.folder.now c.args.names.now (state (g.S.Store.told c.args.store.now).files (g.S.Store.told c.args.store.now).asked) (g.S.Store.told c.loop-name.store).files (g.S.Store.told c.loop-name.store).asked c.loop-name.name-index c.loop-name.sources (nothing_left c.args.names.now c.loop-name.name-index (omega arith)) c.loop-name.invariant.rest

pub returns-in_err-source-clause-heard : goal.returns-in_err-source-clause-heard
returns-in_err-source-clause-heard g c =
    let p = err_from_is_err_and c.from_residual.result c.from_residual.ensures.1 in
    let here = c.as_str.ensures.value ∙ ap string_bytes c.name-item.is in
    let there = c.as_str-in-loop-name.ensures.value ∙ ap string_bytes c.name-item.is in
    rw (p.1, p.2)
    (so_far_stop (λ (s : InMemory). HasRead (source_of s)) (λ (v : Vec InMemory Global). ReadsSources c.args.folder.now (filter is_source (map string_bytes c.args.names.now)) (sources_of v)) c.args.folder.now c.args.names.now c.loop-name.name-index c.name-item.result (sources_of c.loop-name.sources) c.in_err-source.field-0.0 _ _ _
    (omega arith) (sym (ap is_source here) ∙ sym c.if-not-is_source.ensures) c.loop-name.invariant.heard (rw there at c.in_err-source.ensures.heard))

pub returns-in_err-push-clause-heard : goal.returns-in_err-push-clause-heard
returns-in_err-push-clause-heard g c =
    let p = err_from_is_err_and c.from_residual-in_err-push.result c.from_residual-in_err-push.ensures.1 in
    let here = c.as_str.ensures.value ∙ ap string_bytes c.name-item.is in
    let there = c.as_str-in-loop-name.ensures.value ∙ ap string_bytes c.name-item.is in
    rw (p.1, p.2)
    (so_far_none (λ (v : Vec InMemory Global). ReadsSources c.args.folder.now (filter is_source (map string_bytes c.args.names.now)) (sources_of v)) (LacksSource c.args.folder.now (filter is_source (map string_bytes c.args.names.now))) c.args.folder.now c.args.names.now (c.loop-name.name-index + 1) (sources_of c.loop-name.sources ++ source_of c.in_ok-source.source ∷ []) _ _
    (so_far_next source_of (LacksFile (file_in c.args.folder.now c.as_str-in-loop-name.result.now)) c.args.folder.now c.args.names.now c.loop-name.name-index c.name-item.result (sources_of c.loop-name.sources) c.in_ok-source.source (g.S.Store.told c.args.store.now).heard _ _
    (omega arith) (sym (ap is_source here) ∙ sym c.if-not-is_source.ensures) (rw there at c.in_ok-source.ensures.name) c.loop-name.invariant.heard c.in_ok-source.ensures.heard))

pub returns-clause-heard : goal.returns-clause-heard
returns-clause-heard g c =
    so_far_last c.args.folder.now c.args.names.now c.loop-name.name-index c.loop-name.sources _ _ (take_all c.loop-name.name-index c.args.names.now (omega arith)) c.loop-name.invariant.heard

pub loop-name-init : goal.loop-name-init
loop-name-init g c =
    let empty : [] ≡ sources_of c.new-sources.result = sym (ap (map source_of) c.new-sources.ensures.items) in
    let now = state (g.S.Store.told c.args.store.now).files (g.S.Store.told c.args.store.now).asked in
    let P : List SourceFile → Type 0 = λ ss. Continues c.args.folder.now c.args.names.now now 0 ss now in
    let Q : List SourceFile → Type 0 = λ ss. ReadSoFar c.args.folder.now c.args.names.now 0 ss (g.S.Store.told c.args.store.now).heard (g.S.Store.told c.args.store.now).heard in
    record {
      files = refl;
      heard = subst Q empty (so_far_first c.args.folder.now c.args.names.now (g.S.Store.told c.args.store.now).heard);
      count = omega arith;
      rest = subst P empty (continues_first c.args.folder.now c.args.names.now now);
    }
