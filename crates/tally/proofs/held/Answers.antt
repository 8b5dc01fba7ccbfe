-- `tally::held` meets its contract: what is judged of a row tells it.
use mathlib.Core.Path.{◌∙◌}
use Rattle.cells.specs.Rows.{cell_of}
use Rattle.cells.specs.Inner.{body_in}
use Rattle.tally.proofs.Judging.{held_told}
use Rattle.tally.proofs.held.Goals as goal

pub returns : goal.returns
returns c =
    c.is_held.ensures ∙ held_told (body_in _ _) (cell_of _ _ _) c.judge.ensures
