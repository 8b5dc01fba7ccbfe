-- `octets::lay` meets its contract: either all is copied or nothing.
use Rattle.octets.proofs.Laying.{lay_made, lay_kept}
use Rattle.octets.proofs.lay.Goals as goal

pub returns-then-at-end : goal.returns-then-at-end
returns-then-at-end c =
    let a = c.args in let m = lay_made _ _ a.at c.after-end.ensures c.if-at-end.true in
    rw c.copy.ensures m

pub returns-else-at-end : goal.returns-else-at-end
returns-else-at-end c =
    let a = c.args in lay_kept _ _ a.at c.after-end.ensures c.if-at-end.false
