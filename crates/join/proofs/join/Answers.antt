-- `join::join` meets its contract: settings and order, and then the joining itself.
use mathlib.Core.Path.{refl, ◌∙◌}
use Rattle.std.proofs.lemmas.Result.{err_from_is_err_and}
use Rattle.walk.proofs.Refuses.{has_number}
use Rattle.cells.proofs.Gate.{opened_refusal, opened_number, opened_gate, opened_cells}
use Rattle.join.proofs.Joins.{join_shut}
use Rattle.join.proofs.Inner.{joins_open}
use Rattle.join.proofs.join.Goals as goal

pub returns-in_err-n : goal.returns-in_err-n
returns-in_err-n c =
    let o = c.in_err-n.ensures in
    let k = join_shut _ 1024 _ _ _ (λ g. has_number _ (opened_number _ 1024 _ o ∙ g)) (opened_refusal _ 1024 _ o) refl in
    let p = err_from_is_err_and c.from_residual.result c.from_residual.ensures.1 in
    record { value = rw (p.1, p.2) k.0; store_after = k.1.0; out_after = k.1.1 }

pub returns : goal.returns
returns c =
    let o = c.in_ok-n.ensures in
    let k = joins_open _ 1024 _ _ (opened_gate _ 1024 _ o refl) (opened_cells _ 1024 _ o refl) _ _
    (c.join_in.ensures.joined_value, (c.join_in.ensures.late_value, (c.join_in.ensures.store_after, c.join_in.ensures.out_after))) in
    record { value = k.0; store_after = k.1.0; out_after = k.1.1 }
