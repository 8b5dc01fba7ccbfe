-- `cells::tail` meets its contract: past the end nothing is left.
use native.Mathlib.Omega.{arith}
use Rattle.cells.proofs.Held.{tail_is}
use Rattle.cells.proofs.tail.Goals as goal

pub slice_bounds-result-count : goal.slice_bounds-result-count
slice_bounds-result-count c =
    omega (arith, c.within-from.ensures)

pub returns : goal.returns
returns c =
    tail_is _ _ c.within-from.ensures
