-- `tally::first` meets its contract: a cell that is not held has no key, and that of a held one is looked for below it.
use mathlib.Core.Path.{refl}
use Rattle.cells.proofs.CellSegments.{unheld_told}
use Rattle.tally.proofs.Judging.{first_none, first_asked, first_told}
use Rattle.tally.proofs.first.Goals as goal

pub new_key-requires-clause-asked : goal.new_key-requires-clause-asked
new_key-requires-clause-asked c =
    first_asked _ _ _ _ c.row-r.ensures c.in-Held.ensures refl c.packet_in.ensures (λ j. (c.type_inv.store j).fits)

pub returns-in-Held : goal.returns-in-Held
returns-in-Held c =
    first_told _ _ _ _ c.row-r.ensures c.in-Held.ensures refl c.packet_in.ensures c.new_key.ensures

pub returns-in_default : goal.returns-in_default
returns-in_default c =
    first_none _ _ _ _ c.row-r.ensures c.judge.ensures (unheld_told c.judge.result c.in_default.not-Held)
