use Rattle.std.proofs.Common.{ap, ◌∙◌, arith}
use Rattle.ui_forms.proofs.PlaceLemmas.{index_all, index_none, index_turn, path_of}
use Rattle.ui_forms.proofs.scope.places_of.Goals as goal

pub loop-place-init : goal.loop-place-init
loop-place-init c = index_none path_of _ _ c.new-places.ensures

pub loop-place-preserved : goal.loop-place-preserved
loop-place-preserved c = index_turn path_of c.loop-place.place c.loop-place.places _ c.args.imports.now c.index-imports-place.result c.path.result.now c.loop-place.invariant c.loop-place-test.true c.index-imports-place.is (c.path.ensures ∙ ap path_of c.linked.view_is) c.in_ok-add.ensures.now

pub returns : goal.returns
returns c = record { same = index_all path_of c.loop-place.place c.loop-place.places c.args.imports.now c.loop-place.invariant (omega arith) }
