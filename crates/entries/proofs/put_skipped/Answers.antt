-- `entries::put_skipped` meets its contract: its pieces, one after another.
use Rattle.octets.proofs.Laying.{lays_both}
use Rattle.entries.specs.Lines.{skipped_pieces}
use Rattle.entries.proofs.put_skipped.Goals as goal

pub returns : goal.returns
unfolding skipped_pieces
returns c =
    lays_both c.put_entry-a.ensures c.lay.ensures
