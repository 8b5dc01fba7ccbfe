-- `entries::put_entry` meets its contract: three pieces, one after another.
use Rattle.octets.proofs.Laying.{lays_both}
use Rattle.entries.proofs.put_entry.Goals as goal

pub returns : goal.returns
returns c =
    lays_both c.lay-a.ensures (lays_both c.put_next-b.ensures c.put_next.ensures)
