-- `cells::put_cell` meets its contract: the mark and then the packet, where both fit.
use Rattle.cells.proofs.Putting.{put_there}
use Rattle.cells.proofs.put_cell.Goals as goal

pub returns : goal.returns
returns c =
    put_there _ _ _ _ c.place-at.ensures c.requires c.lay_number-after.ensures
    c.lay.ensures
