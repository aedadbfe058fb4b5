use Rattle.std.proofs.Common.{ap, ◌∙◌}
use Rattle.ui_scan.specs.Scan.{tokens_of}
use Rattle.ui_sources.specs.Sources.{source_of}
use Rattle.ui_sources.proofs.SourceLemmas.{has_room}
use Rattle.ui_sources.proofs.parse.parse.Goals as goal

pub parse_file-requires-clause-scanned : goal.parse_file-requires-clause-scanned
parse_file-requires-clause-scanned c = c.scan_of_a_file.ensures.sound c.bytes.result.now c.args.tokens.now (ap tokens_of c.bytes.ensures ∙ c.requires.scanned)

pub parse_file-requires-clause-room : goal.parse_file-requires-clause-room
parse_file-requires-clause-room c =
    has_room (source_of c.args.source.now) c.bytes.result.now c.args.tokens.now c.requires.measured c.bytes.ensures
    (c.scan_of_a_file.ensures.sound c.bytes.result.now c.args.tokens.now (ap tokens_of c.bytes.ensures ∙ c.requires.scanned))
