-- `tally::keyed` meets its contract, case by case.
use mathlib.Core.Path.{refl}
use Rattle.cells.proofs.CellSegments.{unheld_told}
use Rattle.tally.proofs.Judging.{key_none, key_told}
use Rattle.tally.proofs.keyed.Goals as goal

pub returns-in-Held : goal.returns-in-Held
returns-in-Held c =
    key_told _ _ _ c.in-Held.ensures refl (λ i. (c.type_inv.row i).fits)
    c.requires.asked c.packet_in.ensures c.same_key.ensures

pub returns-in_default : goal.returns-in_default
returns-in_default c =
    key_none _ _ _ c.judge.ensures _ (unheld_told c.judge.result c.in_default.not-Held)
