-- `entries::put_flags` meets its contract: a comma, the word, then the counter.
use Rattle.octets.proofs.Laying.{lays_as, lays_both}
use Rattle.entries.proofs.put_flags.Goals as goal

pub returns : goal.returns
returns c =
    lays_both (lays_both c.lay-a.ensures (lays_as c.word.ensures c.lay-b.ensures)) c.put_counter.ensures
