-- `cells::lowest_free` meets its contract. The loop's invariant: none of the cells passed is free.
use Rattle.cells.proofs.Scans.{seeking_first, seeking_turn, seeking_found, seeking_none, row_free}
use Rattle.cells.proofs.lowest_free.Goals as goal

pub loop-i-init : goal.loop-i-init
loop-i-init c =
    seeking_first _ _

pub returns-then-is_free : goal.returns-then-is_free
returns-then-is_free c =
    seeking_found c.loop-i.invariant c.loop-i-test.true
    (row_free _ _ _ c.row.ensures c.is_free.ensures c.if-is_free.true)

pub loop-i-preserved : goal.loop-i-preserved
loop-i-preserved c =
    seeking_turn c.loop-i.invariant c.loop-i-test.true
    (row_free _ _ _ c.row.ensures c.is_free.ensures c.if-is_free.false)

pub returns : goal.returns
returns c =
    seeking_none c.loop-i.invariant c.loop-i-test.false
