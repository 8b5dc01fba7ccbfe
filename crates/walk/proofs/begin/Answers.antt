-- `walk::begin` meets its contract: its steps are the definition's.
use Rattle.walk.specs.Walk.{begun}
use Rattle.walk.proofs.begin.Goals as goal

pub returns : goal.returns
unfolding begun
returns c =
    simp (c.check-3.ensures, c.check-2.ensures, c.check.ensures, c.goes-w.ensures)
