-- `tally::left` meets its contract: both counts go over the cells that the length gives.
use Rattle.tally.proofs.Passing.{left_told}
use Rattle.tally.proofs.left.Goals as goal

pub returns : goal.returns
returns c =
    left_told _ 1024 _ c.count-n.ensures c.segments-all.ensures c.keys-different.ensures
