-- `entries::put_next` meets its contract: a comma, then the digits.
use Rattle.octets.proofs.Laying.{lays_both}
use Rattle.entries.proofs.put_next.Goals as goal

pub returns : goal.returns
returns c =
    lays_both c.lay-next.ensures c.put_decimal.ensures
