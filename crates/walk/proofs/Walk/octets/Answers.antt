-- `walk::Walk::octets` meets its contract, case by case.
use borrow.Author.Tests.{eq-eqb, ne_eqb}
use mathlib.Core.Path.{sym, ◌∙◌, ap}
use native.Mathlib.Omega.{arith}
use Rattle.walk.proofs.Steps.{octets_refused, octets_past, octets_ends, octets_goes}
use Rattle.walk.specs.Inner.{as_walk}
use Rattle.walk.proofs.Walk.octets.Goals as goal

pub returns-then-self-ne0 : goal.returns-then-self-ne0
returns-then-self-ne0 c =
    ap as_walk (sym (octets_refused _ _ _ _ (ne_eqb _ _ c.if-self-ne0.true)))

pub returns-then-b-at : goal.returns-then-b-at
returns-then-b-at c =
    simp (c.stopped.ensures, c.past-past.ensures)
    (ap as_walk (sym (octets_past _ _ _ _ (eq-eqb _ _ c.if-self-ne0.false) (omega (arith, c.if-b-at.true)))))

pub returns-then-b-at-2 : goal.returns-then-b-at-2
returns-then-b-at-2 c =
    simp (c.stopped-then-b-at-2.ensures, c.past-past.ensures)
    (ap as_walk (sym (octets_past _ _ _ _ (eq-eqb _ _ c.if-self-ne0.false) (omega (arith, c.if-b-at-2.true)))))

pub returns-then-p-at : goal.returns-then-p-at
returns-then-p-at c =
    c.stopped-then-p-at.ensures
    ∙ ap as_walk
    (sym (octets_ends _ _ _ _ (eq-eqb _ _ c.if-self-ne0.false) (omega (arith, c.if-b-at.false, c.if-b-at-2.false))
    (omega arith)))

pub returns : goal.returns
returns c =
    c.goes.ensures
    ∙ ap as_walk
    (sym (octets_goes _ _ _ _ (eq-eqb _ _ c.if-self-ne0.false) (omega (arith, c.if-b-at.false, c.if-b-at-2.false))
    (omega arith)))
