-- `carry_messages::run` is safe and ends. The measure is the number of turns that are left.
use Rattle.std.proofs.Common.{◌≡◌, ◌≤◌, length}
use Rattle.carry_messages.proofs.run.Given as goal

abbrev pub invariant-loop-turns : goal.invariant-loop-turns
invariant-loop-turns l =
    (l.from ≤ l.till) × ((l.till ≤ length l.buf) × ((l.at ≤ length l.out) × ((length l.buf ≡ length l.initial.buf) × (length l.out ≡ length l.initial.out))))

abbrev pub decreases-loop-turns : goal.decreases-loop-turns
decreases-loop-turns l = l.turns
