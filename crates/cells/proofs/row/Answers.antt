-- `cells::row` meets its contract: the two ends are kept inside.
use native.Mathlib.Omega.{arith}
use Rattle.octets.proofs.Places.{part_at}
use Rattle.cells.proofs.row.Goals as goal

pub slice_bounds-result-count : goal.slice_bounds-result-count
slice_bounds-result-count c =
    omega (arith, c.within-to.ensures)

pub returns : goal.returns
returns c =
    part_at _ _ _ c.place-from.ensures c.within-to.ensures
