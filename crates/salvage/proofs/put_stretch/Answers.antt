-- `salvage::put_stretch` meets its contract: an open stretch is put, and nothing if none is open.
use Rattle.salvage.proofs.Numbering.{puts_open, puts_none}
use Rattle.salvage.proofs.put_stretch.Goals as goal

pub returns-then-stop : goal.returns-then-stop
returns-then-stop c =
    puts_open c.if-stop.true c.put.ensures

pub returns : goal.returns
returns c =
    puts_none c.if-stop.false
