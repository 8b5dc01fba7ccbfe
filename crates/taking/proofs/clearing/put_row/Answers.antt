-- `clearing::put_row` meets its contract: the place is kept inside the store, and past its end nothing is written.
use mathlib.Core.Path.{◌∙◌}
use Rattle.taking.proofs.Clears.{row_there}
use Rattle.taking.proofs.clearing.put_row.Goals as goal

pub returns : goal.returns
returns c =
    c.copy.ensures ∙ row_there c.args.store.now c.args.row.now _
    c.place-at.ensures
