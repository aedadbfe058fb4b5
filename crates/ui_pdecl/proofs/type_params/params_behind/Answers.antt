use Rattle.std.proofs.Common.{rules, refl}
use Rattle.ui_parse.proofs.ListLaws.{called_reads, parts_read}
use Rattle.ui_scan.specs.declared.kind.TokenKind.TheVariants.{Comma, RBracket}
use Rattle.ui_stmts.specs.Decls.{type_param, type_params_ending}
use Rattle.ui_pdecl.specs.Seen.{see_type_params}
use Rattle.ui_pdecl.proofs.type_params.params_behind.Goals as goal

pub returns : goal.returns
returns c =
    let step = type_param c.args.room in
    parts_read Comma RBracket _ type_params_ending see_type_params _ step (λ s. refl) (λ s. refl) (called_reads see_type_params _ step (λ old new s r k. search rules)) c.args.params c.args.words.now c.parts.result c.parts.new.cursor c.parts.ensures
