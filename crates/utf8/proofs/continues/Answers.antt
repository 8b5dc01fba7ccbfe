-- `utf8::continues` meets its contract: its tests are the definition's.
use Rattle.utf8.specs.Test.{continues}
use Rattle.utf8.proofs.continues.Goals as goal

pub returns : goal.returns
unfolding continues
returns c =
    simp (c.both.ensures, c.highest.ensures, c.lowest.ensures)
