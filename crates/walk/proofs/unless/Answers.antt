-- `walk::unless` meets its contract, case by case.
use borrow.Author.Tests.{eq-eqb, ne_eqb}
use Rattle.walk.specs.Walk.{unless}
use Rattle.walk.proofs.unless.Goals as goal

pub returns-then-r-ne0 : goal.returns-then-r-ne0
unfolding unless
returns-then-r-ne0 c =
    simp (ne_eqb _ _ c.if-r-ne0.true)

pub returns-then-ok : goal.returns-then-ok
unfolding unless
returns-then-ok c =
    simp (eq-eqb _ _ c.if-r-ne0.false, c.if-ok.true)

pub returns : goal.returns
unfolding unless
returns c =
    simp (eq-eqb _ _ c.if-r-ne0.false, c.if-ok.false)
