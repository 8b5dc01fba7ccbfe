-- `cells::find_on` meets its contract. The loop's invariant: the best so far is the lowest of the cells that the walk has passed.
use mathlib.Core.Logic.{inl, inr}
use Rattle.cells.proofs.Finding.{chain_low, finding_first, finding_less, finding_turn, finding_done}
use Rattle.cells.proofs.find_on.Goals as goal
use Rattle.cells.proofs.find_on.Goals.{then-carries_at, else-carries_at}

pub head-cur-requires : goal.head-cur-requires
head-cur-requires c = chain_low _ _ _ _ _ _ _ c.requires.asked c.requires.chained c.requires.b_value

pub loop-cur-init : goal.loop-cur-init
loop-cur-init c = finding_first _ _ _ _ _ _ _ c.requires.asked c.requires.chained c.requires.b_value c.head-cur.ensures

pub loop-cur-smaller : goal.loop-cur-smaller
loop-cur-smaller c =
    rw c.in-Some.is
    (finding_less _ _ _ _ _ _ _ c.requires.asked c.requires.chained c.requires.b_value (rw c.in-Some.is at c.loop-cur.invariant) c.next-cur.ensures)

pub loop-cur-preserved : goal.loop-cur-preserved
loop-cur-preserved c =
    finding_turn _ _ _ _ _ _ _ c.requires.asked c.requires.chained c.requires.b_value (rw c.in-Some.is at c.loop-cur.invariant) c.next-cur.ensures
    c.row.ensures c.carries_at.ensures
    (elim c.if-carries_at.branch [ then-carries_at w ↦ inl (w.if-carries_at.true, w.best-is) | else-carries_at w ↦ inr (w.if-carries_at.false, w.best-is) ])

pub returns : goal.returns
returns c = finding_done _ _ _ _ _ _ _ c.requires.asked c.requires.chained c.requires.b_value (rw c.in_default.is at c.loop-cur.invariant)
