-- `clearing::put_record` meets its contract: the mark, the key and the two counters one after the other, where all of them fit.
use Rattle.taking.proofs.Leaves.{record_there}
use Rattle.taking.proofs.clearing.put_record.Goals as goal

pub returns : goal.returns
returns c =
    record_there _ _ _ _ _ _ c.place-at.ensures c.requires c.lay_number-after_mark.ensures c.lay-after_key.ensures c.lay_number-after_first.ensures
    c.lay_number.ensures
