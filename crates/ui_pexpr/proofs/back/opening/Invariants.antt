use Rattle.std.proofs.Common.{◌≡◌, ℕ, ◌+◌, ◌≤◌, List, length}
use Rattle.ui_pexpr.specs.Back.{opening, back_of}
use Rattle.ui_pexpr.proofs.back.opening.Given as goal

abbrev pub invariant-loop-rest : goal.invariant-loop-rest
invariant-loop-rest l = ((bytes : List ℕ) → opening l.semicolons l.level (back_of bytes l.rest) ≡ opening l.semicolons 0 (back_of bytes l.fn.front)) × (l.level + length l.rest ≤ length l.fn.front)

abbrev pub decreases-loop-rest : goal.decreases-loop-rest
decreases-loop-rest l = length l.rest
