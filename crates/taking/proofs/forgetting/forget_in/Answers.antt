-- `forgetting::forget_in` meets its contract: a number past the cells and a cell without a record are refused, and else zeros go over the cell.
use mathlib.Core.Path.{ap}
use Rattle.walk.specs.Walk.{refusal}
use Rattle.taking.proofs.Forgets.{forgot_past, forgot_other, forgot_here}
use Rattle.taking.proofs.forgetting.forget_in.Goals as goal

pub returns-then-n-number : goal.returns-then-n-number
returns-then-n-number c =
    let f = forgot_past _ _ _ _ _ c.if-n-number.true in record { value = ap refusal f.0; store_after = f.1 }

pub is_record-requires : goal.is_record-requires
is_record-requires c =
    c.requires

pub returns-then-not-is_record : goal.returns-then-not-is_record
returns-then-not-is_record c =
    let f = forgot_other _ _ _ _ _ c.if-n-number.false c.row.ensures c.is_record.ensures c.if-not-is_record.true in
    record { value = ap refusal f.0; store_after = f.1 }

pub returns : goal.returns
returns c =
    let f = forgot_here _ _ _ _ _ c.if-n-number.false c.row.ensures c.is_record.ensures c.if-not-is_record.false c.requires c.put_row.ensures in
    record { value = ap refusal f.0; store_after = f.1 }
