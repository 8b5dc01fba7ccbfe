-- `join_recording::run` is safe and ends. The measure is the number of turns that are left.
use Rattle.join_recording.proofs.Turns.{Going}
use Rattle.join_recording.proofs.run.Given as goal

abbrev pub invariant-loop-turns : goal.invariant-loop-turns
invariant-loop-turns l = Going l.s l.n l.zero l.initial.store l.initial.buf l.initial.out l.store l.buf l.out l.from l.till l.at

abbrev pub decreases-loop-turns : goal.decreases-loop-turns
decreases-loop-turns l = l.turns
