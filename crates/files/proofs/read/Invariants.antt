-- `files::read` is safe and ends. The measure is the number of tries that are left.
use Rattle.std.proofs.Common.{◌≡◌, length}
use Rattle.files.proofs.read.Given as goal

abbrev pub invariant-loop-tries : goal.invariant-loop-tries
invariant-loop-tries l = length l.x ≡ length l.initial.x

abbrev pub decreases-loop-tries : goal.decreases-loop-tries
decreases-loop-tries l = l.tries
