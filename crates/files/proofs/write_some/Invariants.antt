-- `files::write_some` meets its contract: a write takes at most what there is. The measure is the number of tries that
-- are left.
use Rattle.files.proofs.write_some.Given as goal

abbrev pub decreases-loop-tries : goal.decreases-loop-tries
decreases-loop-tries l = l.tries
