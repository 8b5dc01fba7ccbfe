-- `moving::test` meets its contract: the store's settings and order, the target's length, and then the packets.
use mathlib.Core.Path.{refl}
use native.Mathlib.Omega.{arith}
use Rattle.walk.proofs.Refuses.{has_number}
use Rattle.cells.proofs.Gate.{opened_refusal, opened_cells}
use Rattle.moving.proofs.Answers.{octets_top, told_shut, cells_most_lem, other_length, packet_long, all_short}
use Rattle.moving.proofs.test.Goals as goal

pub returns-in-Err-clause-value : goal.returns-in-Err-clause-value
returns-in-Err-clause-value c = told_shut _ _ _ _ _ (opened_refusal _ _ _ c.in-Err.ensures) (has_number _)

pub overflow_mul-n : goal.overflow_mul-n
overflow_mul-n c =
    let n = cells_most_lem _ _ c.args.z _ c.args.len c.in-Ok.ensures refl in
    let k = octets_top n c.requires.z_le_wide_size in
    record { fits = omega arith }

pub returns-then-len-n-clause-value : goal.returns-then-len-n-clause-value
returns-then-len-n-clause-value c =
    let w = c.if-len-n.true in other_length _ _ _ _ _ c.in-Ok.ensures refl (λ e. omega (arith, w, e)) refl

pub returns-then-i-n-clause-value : goal.returns-then-i-n-clause-value
returns-then-i-n-clause-value c =
    let w = c.if-len-n.false in packet_long _ _ _ _ _ c.in-Ok.ensures refl (omega (arith, w)) c.first_too_long-i.ensures c.if-i-n.true refl

pub returns : goal.returns
returns c =
    let w = c.if-len-n.false in record {
      value = all_short _ _ _ _ _ c.in-Ok.ensures refl (omega (arith, w)) c.first_too_long-i.ensures c.if-i-n.false refl;
      cells = opened_cells _ _ _ c.in-Ok.ensures refl;
    }
