-- `octets::lay_number` meets its contract: either all is written or nothing.
use Rattle.octets.proofs.Laying.{lay_made, lay_kept}
use Rattle.octets.proofs.Numbers.{wide_length}
use Rattle.octets.specs.Octets.{wide}
use Rattle.octets.proofs.lay_number.Goals as goal

pub returns-then-at-end : goal.returns-then-at-end
returns-then-at-end c =
    let a = c.args in let m = lay_made (wide a.n a.v) a.out.now a.at (rw (wide_length a.n a.v) c.after-end.ensures) c.if-at-end.true in
    rw c.put_number.ensures m

pub returns-else-at-end : goal.returns-else-at-end
returns-else-at-end c =
    let a = c.args in lay_kept _ _ a.at (rw (wide_length a.n a.v) c.after-end.ensures) c.if-at-end.false
