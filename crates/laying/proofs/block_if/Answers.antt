-- `laying::block_if` meets its contract.
use Rattle.octets.proofs.Laying.{lays_none}
use Rattle.laying.proofs.block_if.Goals as goal

pub returns-then-there : goal.returns-then-there
returns-then-there c =
    rw c.if-there.true c.block.ensures

pub returns : goal.returns
returns c =
    rw c.if-there.false (lays_none _ _)
