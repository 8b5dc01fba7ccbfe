-- `untaken::block_of` meets its contract. The loop's invariant: the climb from where it stands ends where the whole climb ends.
use Rattle.cells.proofs.Blocks.{climbing_first, climbing_here, climbing_turn, climbing_top}
use Rattle.cells.proofs.untaken.block_of.Goals as goal

pub loop-level-init : goal.loop-level-init
loop-level-init c =
    climbing_first _ _

pub returns-then-left-eq0 : goal.returns-then-left-eq0
returns-then-left-eq0 c =
    climbing_here c.loop-level.invariant c.if-left-eq0.true

pub loop-level-preserved : goal.loop-level-preserved
loop-level-preserved c =
    climbing_turn c.loop-level.invariant c.loop-level-test.true c.if-left-eq0.false

pub returns : goal.returns
returns c =
    climbing_top c.loop-level.invariant c.loop-level-test.false
