-- `cells::counter_place` meets its contract.
use native.Mathlib.Omega.{arith}
use Rattle.cells.specs.Inner.{place_in}
use Rattle.cells.proofs.counter_place.Goals as goal

pub returns : goal.returns
unfolding place_in
returns c =
    omega (arith, c.octet-f.ensures)
