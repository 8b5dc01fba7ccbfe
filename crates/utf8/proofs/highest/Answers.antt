-- `utf8::highest` meets its contract: the tests of its branches are the definition's.
use borrow.Author.Tests.{eq-eqb, ne_eqb}
use Rattle.utf8.specs.Test.{highest}
use Rattle.utf8.proofs.highest.Goals as goal

pub returns-then-c-eq237 : goal.returns-then-c-eq237
unfolding highest
returns-then-c-eq237 c =
    simp (eq-eqb _ _ c.if-c-eq237.true)

pub returns-then-c-eq244 : goal.returns-then-c-eq244
unfolding highest
returns-then-c-eq244 c =
    simp (ne_eqb _ _ c.if-c-eq237.false, eq-eqb _ _ c.if-c-eq244.true)

pub returns : goal.returns
unfolding highest
returns c =
    simp (ne_eqb _ _ c.if-c-eq237.false, ne_eqb _ _ c.if-c-eq244.false)
