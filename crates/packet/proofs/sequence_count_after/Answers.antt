-- `packet::sequence_count_after` meets its contract: the closed form is the definition's steps.
use native.Mathlib.Omega.{arith}
use Rattle.packet.proofs.Counts.{count_here, count_after}
use Rattle.packet.proofs.sequence_count_after.Goals as goal

pub returns-then-n-eq0 : goal.returns-then-n-eq0
returns-then-n-eq0 c =
    count_here _ _ c.if-n-eq0.true

pub overflow_add-result : goal.overflow_add-result
overflow_add-result c =
    omega arith

pub overflow_cast-result : goal.overflow_cast-result
overflow_cast-result c =
    omega arith

pub returns : goal.returns
returns c =
    count_after _ _ c.held_count-x.ensures c.if-n-eq0.false
