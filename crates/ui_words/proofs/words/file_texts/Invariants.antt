use Rattle.std.proofs.Common.{◌≡◌, map, take}
use Rattle.ui_file.specs.Words.{text_at}
use Rattle.ui_words.proofs.words.file_texts.Given as goal

abbrev pub invariant-loop-base : goal.invariant-loop-base
invariant-loop-base l = l.files.items
    ≡ map (λ b. text_at l.texts b.file) (take l.base-index l.bases)
