-- `untaken::untaken_all` meets its contract. The loop's invariant: no segment of the cells passed lies in a range.
use mathlib.Core.Path.{sym, ◌∙◌}
use Rattle.cells.proofs.Passing.{passing_first, passing_turn, passing_fault, passing_all}
use Rattle.cells.specs.Order.{untaken}
use Rattle.cells.proofs.untaken.untaken_all.Goals as goal

pub loop-i-init : goal.loop-i-init
loop-i-init c =
    passing_first _ _

pub returns-then-not-untaken_at : goal.returns-then-not-untaken_at
unfolding untaken
returns-then-not-untaken_at c =
    passing_fault c.loop-i.invariant c.loop-i-test.true (sym c.untaken_at.ensures ∙ c.if-not-untaken_at.true)

pub loop-i-preserved : goal.loop-i-preserved
loop-i-preserved c =
    passing_turn c.loop-i.invariant c.loop-i-test.true (sym c.untaken_at.ensures ∙ c.if-not-untaken_at.false)

pub returns : goal.returns
unfolding untaken
returns c =
    passing_all c.loop-i.invariant c.loop-i-test.false
