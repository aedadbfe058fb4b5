use Rattle.ui_ptype.proofs.Covers.{are_literals, no_literals}
use Rattle.std.proofs.Common.{sym}
use Rattle.ui_ptype.proofs.cover.has_literals.Goals as goal

pub returns-in_default : goal.returns-in_default
returns-in_default c = sym (no_literals c.args.of.now (record {
  not_slice = c.in_default.not-Slice;
  not_array = c.in_default.not-Array;
  not_counted = c.in_default.not-Counted;
  not_map = c.in_default.not-Map;
  not_struct = c.in_default.not-Struct;
}))

pub returns-in-Slice : goal.returns-in-Slice
returns-in-Slice c = are_literals c.args.of.now c.in-Slice.is

pub returns-in-Slice-2 : goal.returns-in-Slice-2
returns-in-Slice-2 c = are_literals c.args.of.now c.in-Slice.is

pub returns-in-Slice-3 : goal.returns-in-Slice-3
returns-in-Slice-3 c = are_literals c.args.of.now c.in-Slice.is

pub returns-in-Slice-4 : goal.returns-in-Slice-4
returns-in-Slice-4 c = are_literals c.args.of.now c.in-Slice.is

pub returns-in-Slice-5 : goal.returns-in-Slice-5
returns-in-Slice-5 c = are_literals c.args.of.now c.in-Slice.is
