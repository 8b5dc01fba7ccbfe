-- `steps::stop` meets its contract.
use Rattle.steps.specs.Inner.{stop_as}
use Rattle.steps.proofs.stop.Goals as goal

pub returns-then-ends : goal.returns-then-ends
unfolding stop_as
returns-then-ends c =
    rw c.if-ends.true

pub returns : goal.returns
unfolding stop_as
returns c =
    rw c.if-ends.false
