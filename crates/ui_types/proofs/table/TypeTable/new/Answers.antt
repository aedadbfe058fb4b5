use Rattle.std.proofs.Common.{sym, ap, ◌∙◌, subst as transport}
use Rattle.ui_types.specs.Entries.{IsTable, trees_of}
use Rattle.ui_types.proofs.TableLemmas.{IsTable-nil, trees_of-nil}
use Rattle.ui_types.proofs.table.TypeTable.new.Goals as goal

pub invariant_of-result : goal.invariant_of-result
invariant_of-result c = transport IsTable (sym c.new.ensures.empty) IsTable-nil

pub returns : goal.returns
returns c = ap trees_of c.new.ensures.empty ∙ trees_of-nil
