use Rattle.std.proofs.Common.{sym}
use Rattle.ui_stray.proofs.Tables.{table_told}
use Rattle.ui_stray.proofs.table.put_table.Goals as goal

pub returns-in-Ok : goal.returns-in-Ok
returns-in-Ok c =
    table_told c.args.starts.now c.put_entries.result c.args.bytes.now c.args.out.now.items
    c.put_entries.new.out.items c.in-Ok.count c.in-Ok.at (sym c.in-Ok.ensures.read)
    c.put_entries.ensures
