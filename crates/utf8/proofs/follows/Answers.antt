-- `utf8::follows` meets its contract: the branch is the definition's.
use mathlib.Core.Path.{sym}
use Rattle.utf8.specs.Test.{follows}
use Rattle.utf8.proofs.follows.Goals as goal

pub returns-then-ended : goal.returns-then-ended
unfolding follows
returns-then-ended c =
    simp (sym c.ended.ensures, c.if-ended.true, c.begins-first.ensures)

pub returns-else-ended : goal.returns-else-ended
unfolding follows
returns-else-ended c =
    simp (sym c.ended.ensures, c.if-ended.false, c.continues-next.ensures)
