-- `taking::pick_message` meets its contract. The loop's invariant: the cells passed open no complete message.
use Rattle.taking.proofs.Picks.{picking_first, picking_turn, picking_found, picking_none}
use Rattle.taking.proofs.pick_message.Goals as goal

pub loop-cell-init : goal.loop-cell-init
loop-cell-init c = picking_first _ _ _ _ _ _

pub returns-in-Some : goal.returns-in-Some
returns-in-Some c = picking_found _ _ _ _ _ _ c.loop-cell.invariant c.loop-cell-test.true c.run_at.ensures c.in-Some.is

pub loop-cell-preserved : goal.loop-cell-preserved
loop-cell-preserved c = picking_turn _ _ _ _ _ _ c.loop-cell.invariant c.loop-cell-test.true c.run_at.ensures c.in_default.is

pub returns : goal.returns
returns c = picking_none _ _ _ _ _ _ c.loop-cell.invariant c.loop-cell-test.false
