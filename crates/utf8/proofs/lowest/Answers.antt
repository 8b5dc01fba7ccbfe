-- `utf8::lowest` meets its contract: the tests of its branches are the definition's.
use borrow.Author.Tests.{eq-eqb, ne_eqb}
use Rattle.utf8.specs.Test.{lowest}
use Rattle.utf8.proofs.lowest.Goals as goal

pub returns-then-c-eq224 : goal.returns-then-c-eq224
unfolding lowest
returns-then-c-eq224 c =
    simp (eq-eqb _ _ c.if-c-eq224.true)

pub returns-then-c-eq240 : goal.returns-then-c-eq240
unfolding lowest
returns-then-c-eq240 c =
    simp (ne_eqb _ _ c.if-c-eq224.false, eq-eqb _ _ c.if-c-eq240.true)

pub returns : goal.returns
unfolding lowest
returns c =
    simp (ne_eqb _ _ c.if-c-eq224.false, ne_eqb _ _ c.if-c-eq240.false)
