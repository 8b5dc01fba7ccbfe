-- `entries::put_kept` meets its contract: its pieces, one after another.
use Rattle.octets.proofs.Laying.{lays_both}
use Rattle.entries.specs.Lines.{kept_pieces}
use Rattle.entries.proofs.put_kept.Goals as goal

pub returns : goal.returns
unfolding kept_pieces
returns c =
    lays_both
    c.put_entry-a.ensures
    (lays_both c.put_next-b.ensures (lays_both c.put_next-c.ensures (lays_both c.put_flags-d.ensures c.lay.ensures)))
