-- `cells::run_at` meets its contract: the counters that stand there.
use mathlib.Core.Path.{ap₂, ◌∙◌}
use Rattle.cells.specs.Rows.{steps_between}
use Rattle.cells.proofs.run_at.Goals as goal

pub returns : goal.returns
returns c =
    record { first_value = c.read.ensures; steps_value = c.steps_between.ensures ∙ ap₂ steps_between c.read.ensures c.read-2.ensures }
