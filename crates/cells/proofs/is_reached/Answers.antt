-- `cells::is_reached` meets its contract: from the first on by the difference, below it round the end.
use native.Mathlib.Omega.{arith}
use Rattle.cells.proofs.Reaches.{reaches_up, reaches_down}
use Rattle.cells.proofs.is_reached.Goals as goal

pub overflow_add-result : goal.overflow_add-result
overflow_add-result c =
    omega (arith, c.if-c-first.true)

pub returns-then-c-first : goal.returns-then-c-first
returns-then-c-first c =
    reaches_down _ _ _ (omega arith) c.if-c-first.true

pub returns : goal.returns
returns c =
    reaches_up _ _ _ (omega arith) c.if-c-first.false
