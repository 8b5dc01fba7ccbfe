-- `walk::end_refusal` meets its contract: the test of the branch is the definition's.
use borrow.Author.Tests.{le-leb, lt-leb}
use Rattle.walk.proofs.end_refusal.Goals as goal

pub returns-then-b-p : goal.returns-then-b-p
returns-then-b-p c =
    simp (c.past.ensures, le-leb _ _ c.if-b-p.true)

pub returns : goal.returns
returns c =
    simp (lt-leb _ _ c.if-b-p.false)
