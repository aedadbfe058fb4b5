use Rattle.ui_scan.proofs.LongestLaws.{reads_the_longest}
use Rattle.ui_scan.proofs.piece.longest_tokens.Goals as goal

pub returns : goal.returns
returns c = reads_the_longest
