-- The prefix operator that points at types.
use Rattle.std.specs.Prelude.{Bool, true, false}
use Rattle.ui_tree.specs.declared.part.PrefixOp.{PrefixOp}
use Rattle.ui_tree.specs.declared.part.PrefixOp.TheVariants.{Plus, Minus, Not, Flip, Deref, Address}

abbrev pub is_deref : PrefixOp → Bool
is_deref Deref = true
is_deref Plus = false
is_deref Minus = false
is_deref Not = false
is_deref Flip = false
is_deref Address = false
