-- `untaken::clear_on` meets its contract. The loop's invariant: none of the cells that the walk has passed covers them.
use Rattle.cells.proofs.Nearby.{clear_first, clear_less, clear_turn, clear_fault, clear_done}
use Rattle.cells.proofs.untaken.clear_on.Goals as goal

pub loop-cur-init : goal.loop-cur-init
loop-cur-init c = clear_first _ _ _ _ _ _ c.requires.chained c.requires.b_lt_chains_all c.head-cur.ensures

pub returns-then-covers_at : goal.returns-then-covers_at
returns-then-covers_at c =
    clear_fault _ _ _ _ _ _ c.requires.chained c.requires.b_lt_chains_all (rw c.in-Some.is at c.loop-cur.invariant) c.row.ensures
    c.covers_at.ensures c.if-covers_at.true

pub loop-cur-smaller : goal.loop-cur-smaller
loop-cur-smaller c =
    rw c.in-Some.is (clear_less _ _ _ _ _ _ c.requires.chained c.requires.b_lt_chains_all (rw c.in-Some.is at c.loop-cur.invariant) c.next-cur.ensures)

pub loop-cur-preserved : goal.loop-cur-preserved
loop-cur-preserved c =
    clear_turn _ _ _ _ _ _ c.requires.chained c.requires.b_lt_chains_all (rw c.in-Some.is at c.loop-cur.invariant) c.row.ensures c.covers_at.ensures
    c.next-cur.ensures c.if-covers_at.false

pub returns : goal.returns
returns c = clear_done _ _ _ _ _ _ c.requires.chained c.requires.b_lt_chains_all (rw c.in_default.is at c.loop-cur.invariant)
