-- `cells::counter_in` meets its contract.
use Rattle.cells.specs.Inner.{counter_in}
use Rattle.cells.proofs.counter_in.Goals as goal

pub returns : goal.returns
unfolding counter_in
returns c =
    simp (c.read.ensures, c.counter_place.ensures)
