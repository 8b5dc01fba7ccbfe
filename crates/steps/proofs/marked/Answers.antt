-- `steps::marked` meets its contract.
use Rattle.steps.proofs.Places.{begins_as}
use Rattle.steps.proofs.marked.Goals as goal

pub returns : goal.returns
returns c =
    begins_as c.args.x.now c.span.ensures
    c.within-n.ensures c.same.ensures
