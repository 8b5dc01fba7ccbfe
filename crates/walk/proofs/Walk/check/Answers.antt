-- `walk::Walk::check` meets its contract, case by case.
use borrow.Author.Tests.{eq-eqb, ne_eqb}
use mathlib.Core.Path.{sym, ◌∙◌, ap}
use Rattle.walk.proofs.Steps.{check_refused, check_ok, check_fails}
use Rattle.walk.specs.Inner.{as_walk}
use Rattle.walk.proofs.Walk.check.Goals as goal

pub returns-then-self-ne0 : goal.returns-then-self-ne0
returns-then-self-ne0 c =
    ap as_walk (sym (check_refused _ _ _ (ne_eqb _ _ c.if-self-ne0.true)))

pub returns-then-ok : goal.returns-then-ok
returns-then-ok c =
    ap as_walk (sym (check_ok _ _ _ c.if-ok.true))

pub returns : goal.returns
returns c =
    c.stopped.ensures ∙ ap as_walk (sym (check_fails _ _ _ (eq-eqb _ _ c.if-self-ne0.false) c.if-ok.false))
