-- `salvage::pass` meets its contract. The loop's invariant: the places up to here have no mark.
use Rattle.salvage.proofs.Passing.{passed_one}
use Rattle.salvage.proofs.pass.Goals as goal

pub loop-at-preserved : goal.loop-at-preserved
loop-at-preserved c =
    passed_one c.loop-at.invariant c.loop-at-test.true c.octet_after.ensures c.marked.ensures c.if-marked.false
