-- `salvage::Entry::put` meets its contract: three stores, one after another.
use Prim.Native.Nat.{◌*◌}
use Rattle.salvage.proofs.Numbering.{three_set}
use Rattle.salvage.proofs.Entry.put.Goals as goal

pub returns : goal.returns
returns c =
    rw (three_set c.args.list.now (c.args.n * 3) c.number.result c.args.self.place c.args.self.long, c.number.ensures)
