-- `steps::left` meets its contract.
use borrow.Author.Tests.{eq-eqb, ne_eqb}
use Rattle.steps.specs.Inner.{left_as}
use Rattle.steps.proofs.left.Goals as goal

pub returns-then-refusal-ne-REFUSED_INCOMPLETE : goal.returns-then-refusal-ne-REFUSED_INCOMPLETE
unfolding left_as
returns-then-refusal-ne-REFUSED_INCOMPLETE c =
    λ n. simp (ne_eqb _ 20 c.if-refusal-ne-REFUSED_INCOMPLETE.true)

pub returns-then-late : goal.returns-then-late
unfolding left_as
returns-then-late c =
    λ n. simp (eq-eqb _ 20 c.if-refusal-ne-REFUSED_INCOMPLETE.false, c.if-late.true)

pub returns : goal.returns
unfolding left_as
returns c =
    λ n. simp (eq-eqb _ 20 c.if-refusal-ne-REFUSED_INCOMPLETE.false, c.if-late.false)
