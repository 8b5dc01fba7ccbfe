-- `opening::check_by` meets its contract: 15, then 16, then the cells of a store in order, all chained.
use mathlib.Core.Path.{refl}
use Rattle.std.proofs.lemmas.Result.{err_from_is_err_and}
use Rattle.walk.proofs.Refuses.{has_number}
use Rattle.cells.proofs.Gate.{open_t, open_order, open_held}
use Rattle.cells.proofs.opening.check_by.Goals as goal

pub returns-in_err-check-clause-value : goal.returns-in_err-check-clause-value
returns-in_err-check-clause-value c =
    let p = err_from_is_err_and c.from_residual.result c.from_residual.ensures.1 in rw (p.1, p.2) (open_t _ _ _ c.in_err-check.ensures (has_number _))

pub returns-then-n-eq0-clause-value : goal.returns-then-n-eq0-clause-value
returns-then-n-eq0-clause-value c = open_order _ _ _ c.in_ok-check.ensures refl c.in_order_by-n.ensures.value c.if-n-eq0.true

pub returns-else-n-eq0-clause-value : goal.returns-else-n-eq0-clause-value
returns-else-n-eq0-clause-value c = open_held _ _ _ c.in_ok-check.ensures refl c.in_order_by-n.ensures.value c.if-n-eq0.false
