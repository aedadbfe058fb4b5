use Rattle.std.proofs.Common.{arith}
use Rattle.ui_frame.specs.Laws.{bytes_by_index}
use Rattle.ui_build.proofs.loading.are_bytes.Goals as goal

pub returns : goal.returns
returns c = bytes_by_index _ (λ i. omega (arith, c.type_inv.bytes i))
