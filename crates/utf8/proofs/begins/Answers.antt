-- `utf8::begins` meets its contract: its tests are the definition's.
use Rattle.utf8.specs.Test.{begins}
use Rattle.utf8.proofs.begins.Goals as goal

pub returns : goal.returns
unfolding begins
returns c =
    simp (c.either.ensures, c.both.ensures)
