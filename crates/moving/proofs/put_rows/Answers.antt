-- `moving::put_rows` meets its contract. The loop's invariant: the target begins with the rows passed.
use Rattle.moving.proofs.Passing.{filling_first, filling_turn}
use Rattle.moving.proofs.put_rows.Goals as goal

pub loop-i-init : goal.loop-i-init
loop-i-init c = filling_first _ _ _ _ _ c.requires.target_len

pub loop-i-preserved : goal.loop-i-preserved
loop-i-preserved c = filling_turn c.loop-i.invariant c.loop-i-test.true c.row.ensures c.put_as.ensures
