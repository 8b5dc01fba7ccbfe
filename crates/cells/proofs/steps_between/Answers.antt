-- `cells::steps_between` meets its contract: up, or round the end.
use native.Mathlib.Omega.{arith}
use Rattle.cells.proofs.Spans.{steps_up, steps_round}
use Rattle.cells.proofs.steps_between.Goals as goal

pub returns-then-c-d : goal.returns-then-c-d
returns-then-c-d c =
    steps_up _ _ c.if-c-d.true

pub returns : goal.returns
returns c =
    steps_round _ _ c.if-c-d.false (omega arith)
