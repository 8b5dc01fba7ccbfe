-- `tally::told_at` meets its contract: a cell that is not held tells nothing, and the key of a held one is looked for below it.
use mathlib.Core.Path.{refl}
use Rattle.cells.proofs.CellSegments.{unheld_told}
use Rattle.tally.proofs.Judging.{told_none, first_asked, told_told}
use Rattle.tally.proofs.told_at.Goals as goal

pub returns-in_default : goal.returns-in_default
returns-in_default c =
    told_none _ _ _ _ c.row-r.ensures c.judge.ensures (unheld_told c.judge.result c.in_default.not-Held)

pub told_of-requires-clause-asked : goal.told_of-requires-clause-asked
told_of-requires-clause-asked c =
    first_asked _ _ _ _ c.row-r.ensures c.in-Held.ensures refl c.packet_in.ensures (λ j. (c.type_inv.store j).fits)

pub returns : goal.returns
returns c =
    told_told _ _ _ _ c.row-r.ensures c.in-Held.ensures refl c.packet_in.ensures c.told_of.ensures
