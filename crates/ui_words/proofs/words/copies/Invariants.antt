use Rattle.std.proofs.Common.{◌≡◌, take}
use Rattle.ui_words.proofs.words.copies.Given as goal

abbrev pub invariant-loop-text : goal.invariant-loop-text
invariant-loop-text l = l.texts.items ≡ take l.text-index l.list
