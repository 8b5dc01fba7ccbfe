-- `utf8::ended` meets its contract: its tests are the definition's.
use Rattle.utf8.specs.Test.{ended}
use Rattle.utf8.proofs.ended.Goals as goal

pub returns : goal.returns
unfolding ended
returns c =
    simp (c.both-2.ensures, c.both.ensures)
