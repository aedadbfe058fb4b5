use Rattle.std.proofs.Common.{◌∙◌, ap, sym, length, arith}
use Rattle.std.proofs.lemmas.List.{length-take}
use Rattle.ui_scan.proofs.LetterLaws.{front_char-none}
use Rattle.ui_scan.proofs.letters.wide_char.Goals as goal

pub returns-in_err-chunk : goal.returns-in_err-chunk
returns-in_err-chunk c =
    c.from_residual.ensures ∙ sym (front_char-none c.args.bytes.now (let h = c.in_err-chunk.ensures.steps in let r = c.utf8_chunks.ensures.rest in omega (arith, h.0, ap length r, length-take 4 c.args.bytes.now, length-take c.min.result c.args.bytes.now)))
