-- `packet::next_segment_counter` meets its contract, case by case.
use native.Mathlib.Omega.{arith}
use Rattle.packet.proofs.Rounds.{counter_round, counter_on}
use Rattle.packet.proofs.next_segment_counter.Goals as goal

pub returns-then-c-eq4294967295 : goal.returns-then-c-eq4294967295
returns-then-c-eq4294967295 c =
    counter_round _ c.if-c-eq4294967295.true

pub overflow_add-result : goal.overflow_add-result
overflow_add-result c =
    omega (arith, c.if-c-eq4294967295.false)

pub returns : goal.returns
returns c =
    counter_on _ (omega arith) c.if-c-eq4294967295.false
