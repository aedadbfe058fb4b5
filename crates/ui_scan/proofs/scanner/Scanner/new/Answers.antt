use Rattle.ui_scan.proofs.ScanLaws.{scanned_from}
use Rattle.ui_scan.proofs.scanner.Scanner.new.Goals as goal

pub returns : goal.returns
returns c =
    let s = c.source_of-source.ensures in
    scanned_from c.args.bytes.now c.source_of-source.result.text.now c.source_of-source.result.fault c.source_of-source.result.mark c.after.result
    s.text s.fault s.mark c.after.ensures.place
