-- `walk::Walk::field_from` meets its contract, case by case.
use borrow.Author.Tests.{eq-eqb, ne_eqb}
use mathlib.Core.Path.{sym, ◌∙◌, ap}
use Rattle.walk.proofs.Steps.{field_goes, field_refused}
use Rattle.walk.specs.Inner.{as_walk}
use Rattle.walk.proofs.Walk.field_from.Goals as goal

pub returns-then-self-ne0 : goal.returns-then-self-ne0
returns-then-self-ne0 c =
    c.stopped.ensures ∙ ap as_walk (sym (field_refused _ _ (ne_eqb _ _ c.if-self-ne0.true)))

pub returns : goal.returns
returns c =
    ap as_walk (sym (field_goes _ _ (eq-eqb _ _ c.if-self-ne0.false)))
