-- What an order of the code stands for.
use Rattle.std.specs.Prelude.{string_bytes}
use Rattle.ui_order.specs.Order.{Arrangement, cycle, paths}
use Rattle.ui_order.specs.Tables.{texts}
use Rattle.ui_order.specs.declared.order.Order.{Order}
use Rattle.ui_order.specs.declared.order.Order.TheVariants.{Cycle, Paths}

abbrev pub shown : Order → Arrangement
shown (Cycle path) = cycle (string_bytes path)
shown (Paths order) = paths (texts order)
