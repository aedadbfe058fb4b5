use Rattle.std.proofs.Common.{◌≡◌, map, take}
use Rattle.ui_file.specs.Words.{name_of}
use Rattle.ui_words.proofs.words.names.Given as goal

abbrev pub invariant-loop-el : goal.invariant-loop-el
invariant-loop-el l = l.names.items ≡ map (name_of l.texts l.paths) (take l.el-index l.els)
