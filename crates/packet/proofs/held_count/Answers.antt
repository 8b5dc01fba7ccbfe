-- `packet::held_count` meets its contract: the test of the branch is the definition's.
use borrow.Author.Tests.{le-leb, lt-leb}
use Rattle.packet.specs.Numbers.{count_most}
use Rattle.packet.proofs.held_count.Goals as goal

pub returns-then-x-ge-COUNT_MOST : goal.returns-then-x-ge-COUNT_MOST
returns-then-x-ge-COUNT_MOST c =
    simp (le-leb count_most _ c.if-x-ge-COUNT_MOST.true)

pub returns : goal.returns
returns c =
    simp (lt-leb count_most _ c.if-x-ge-COUNT_MOST.false)
