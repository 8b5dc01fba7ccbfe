-- `salvage::put_kept` meets its contract: the stretch, then the kept place after it.
use native.Mathlib.Omega.{arith}
use Rattle.salvage.proofs.Numbering.{puts_after, puts_kept, puts_long, puts_room}
use Rattle.salvage.proofs.put_kept.Goals as goal

pub put-requires : goal.put-requires
put-requires c =
    puts_room _ c.put_stretch-k.ensures c.requires

pub overflow_add-result : goal.overflow_add-result
overflow_add-result c =
    omega (arith, puts_room _ c.put_stretch-k.ensures c.requires, puts_long c.put_stretch-k.ensures)

pub returns : goal.returns
returns c =
    puts_after c.put_stretch-k.ensures (puts_kept c.put.ensures)
