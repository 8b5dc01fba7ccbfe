-- `utf8::octet_before` meets its contract: the test of the branch is the definition's.
use borrow.Author.Tests.{le-leb, lt-leb}
use Rattle.utf8.specs.Places.{octet_before}
use Rattle.utf8.proofs.octet_before.Goals as goal

pub returns-then-k-at : goal.returns-then-k-at
unfolding octet_before
returns-then-k-at c =
    simp (le-leb _ _ c.if-k-at.true)

pub returns : goal.returns
unfolding octet_before
returns c =
    simp (lt-leb _ _ c.if-k-at.false)
