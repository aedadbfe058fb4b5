use Rattle.std.proofs.Common.{ℕ, List, [], ◌∷◌, refl, subst, lit≤}
use Rattle.ui_exports.specs.Constants.{declaration}
use Rattle.ui_consts.specs.Numbering.{GrownFiles}
use Rattle.ui_consts.proofs.NumberingLemmas.{entry_is, files_later, grown_then}
use Rattle.ui_consts.specs.Record.{value_uses}
use Rattle.ui_consts.proofs.UseLemmas.{covers_both}
use Rattle.ui_consts.proofs.numbered.entry_of.Goals as goal

pub returns-clause-texts : goal.returns-clause-texts
returns-clause-texts c = grown_then 1 2 3 _ _ _ (lit≤ tt) c.in_ok-base.ensures.texts (grown_then 1 1 2 _ _ _ (lit≤ tt) c.in_ok-name.ensures.texts c.in_ok-value.ensures.texts)

pub returns-clause-files : goal.returns-clause-files
returns-clause-files c =
    subst (λ (t : List ℕ). GrownFiles t c.value_of.new.strings.keys c.args.bases.now.keys c.base_of.new.bases.keys) c.bytes.ensures
    (files_later 1 c.bytes.result.now c.place_of.new.strings.keys c.value_of.new.strings.keys _ _ c.in_ok-value.ensures.texts
    (files_later 1 c.bytes.result.now c.base_of.new.strings.keys c.place_of.new.strings.keys _ _ c.in_ok-name.ensures.texts c.in_ok-base.ensures.files))

pub returns-clause-is : goal.returns-clause-is
returns-clause-is c =
    entry_is c.args.name.now (declaration c.args.constant.now) _ c.bytes.result.now c.base_of.new.strings.keys c.place_of.new.strings.keys c.value_of.new.strings.keys c.base_of.new.bases.keys c.bytes.ensures
    c.in_ok-name.ensures.texts c.in_ok-value.ensures.texts c.in_ok-base.ensures.there c.in_ok-base.ensures.is c.in_ok-name.ensures.place c.in_ok-value.ensures.value refl refl

pub returns-clause-used : goal.returns-clause-used
returns-clause-used c = covers_both _ (c.in_ok-name.name ∷ value_uses c.in_ok-value.value) _ _ _ c.in_ok-base.ensures.used (covers_both (c.in_ok-name.name ∷ []) (value_uses c.in_ok-value.value) _ _ _ c.in_ok-name.ensures.used c.in_ok-value.ensures.used)
