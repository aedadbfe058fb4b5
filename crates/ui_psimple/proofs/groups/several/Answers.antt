use Rattle.std.proofs.Common.{◌≡◌, rules, refl, ap, subst}
use Rattle.ui_scan.specs.declared.kind.TokenKind.TheVariants.{Semi, RParen}
use Rattle.ui_parse.specs.Reader.{parts}
use Rattle.ui_parse.specs.View.{Reads}
use Rattle.ui_parse.proofs.ListLaws.{called_reads, parts_read}
use Rattle.ui_syntax.specs.Types.{Listed, empty, any_end}
use Rattle.ui_stmts.specs.Common.{one_spec_more}
use Rattle.ui_psimple.specs.Seen.{see_list}
use Rattle.ui_psimple.proofs.groups.several.Goals as goal

pub returns : goal.returns
returns g c =
    let see = see_list g.R.SpecReader.see in
    let step = one_spec_more (g.R.SpecReader.reader c.args.reader.now) in
    let start : see c.empty.result ≡ empty = ap see c.empty.ensures in
    subst (λ (l : Listed g.R.SpecReader.Seen). Reads see (parts Semi RParen any_end step l c.args.words.now) c.parts.result c.parts.new.cursor) start
    (parts_read Semi RParen _ any_end see _ step (λ s. refl) (λ s. refl) (called_reads see _ step (λ old new s r k. search rules)) c.empty.result c.args.words.now c.parts.result c.parts.new.cursor c.parts.ensures)
