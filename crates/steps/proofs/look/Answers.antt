-- `steps::look` meets its contract: the tests in the order of the definition.
use mathlib.Core.Path.{ap, sym, ◌∙◌}
use Rattle.steps.specs.Told.{stands_of}
use Rattle.steps.proofs.Places.{found_nothing, found_other, found_cut, found_whole}
use Rattle.steps.proofs.look.Goals as goal

pub returns-then-x-eq0 : goal.returns-then-x-eq0
returns-then-x-eq0 c =
    sym (ap stands_of (found_nothing _ c.if-x-eq0.true))

pub returns-then-not-marked : goal.returns-then-not-marked
returns-then-not-marked c =
    sym (ap stands_of (found_other _ c.if-x-eq0.false (sym c.marked.ensures ∙ c.if-not-marked.true)))

pub returns-then-x-read : goal.returns-then-x-read
returns-then-x-read c =
    sym (ap stands_of (found_cut _ c.if-x-eq0.false
    (sym c.marked.ensures ∙ c.if-not-marked.false) (rw c.read.ensures at c.if-x-read.true)))

pub returns : goal.returns
returns c =
    sym (ap stands_of (found_whole _ c.if-x-eq0.false
    (sym c.marked.ensures ∙ c.if-not-marked.false) (rw c.read.ensures at c.if-x-read.false)))
