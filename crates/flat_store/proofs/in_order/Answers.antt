-- `flat_store::in_order_lem` meets its contract: T and the profile are tested, then the order.
use mathlib.Core.Path.{sym, ◌∙◌}
use Rattle.flat_store.proofs.Checked.{err_number, ok_number}
use Rattle.flat_store.proofs.Telling.{order_15, order_16, order_some}
use Rattle.flat_store.proofs.in_order.Goals as goal

pub returns-then-is_err : goal.returns-then-is_err
returns-then-is_err c =
    order_15 _ 1024 _ (err_number _ c.check.ensures (sym c.is_err.ensures.value ∙ c.if-is_err.true))

pub returns-then-n-eq0 : goal.returns-then-n-eq0
returns-then-n-eq0 c =
    order_16 _ 1024 _ c.order-n.ensures (ok_number _ c.check.ensures (sym c.is_err.ensures.value ∙ c.if-is_err.false)) c.if-n-eq0.true

pub returns : goal.returns
returns c =
    order_some _ 1024 _ c.order-n.ensures (ok_number _ c.check.ensures (sym c.is_err.ensures.value ∙ c.if-is_err.false)) c.if-n-eq0.false
