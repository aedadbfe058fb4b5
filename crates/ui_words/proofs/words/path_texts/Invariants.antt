use Rattle.std.proofs.Common.{◌≡◌, map, take}
use Rattle.ui_file.specs.Words.{text_at}
use Rattle.ui_words.proofs.words.path_texts.Given as goal

abbrev pub invariant-loop-package : goal.invariant-loop-package
invariant-loop-package l = l.paths.items
    ≡ map (λ p. text_at l.texts p.path) (take l.package-index l.packages)
