-- `files::front` meets its contract. The loop's invariant: so many octets have gone to the front.
use Rattle.std.proofs.Common.{◌-◌}
use Rattle.files.proofs.Moving.{Moving}
use Rattle.files.proofs.front.Given as goal

abbrev pub invariant-loop-i : goal.invariant-loop-i
invariant-loop-i l = Moving l.initial.buf l.from l.n l.buf l.i

abbrev pub decreases-loop-i : goal.decreases-loop-i
decreases-loop-i l = l.n - l.i
