use Rattle.std.proofs.Common.{refl}
use Rattle.ui_scan.specs.Scan.{tokens_of}
use Rattle.ui_scan.proofs.SourceLaws.{tokens_sound, tokens_complete}
use Rattle.ui_scan.proofs.scanner.scan_of_a_file.Goals as goal

pub returns-clause-sound : goal.returns-clause-sound
returns-clause-sound c = tokens_sound

pub returns-clause-complete : goal.returns-clause-complete
returns-clause-complete c = tokens_complete

pub returns-clause-scanner : goal.returns-clause-scanner
unfolding tokens_of
returns-clause-scanner c = λ bytes. refl
