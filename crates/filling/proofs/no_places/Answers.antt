-- `filling::no_places` meets its contract.
use native.Mathlib.Omega.{arith}
use Rattle.flat.proofs.Placing.{placed_all}
use Rattle.filling.proofs.Parts.{emptied_none, emptied_next}
use Rattle.filling.proofs.no_places.Goals as goal

pub loop-k-init : goal.loop-k-init
loop-k-init c =
    emptied_none c.args.from c.args.answer.now c.requires

pub loop-k-preserved : goal.loop-k-preserved
loop-k-preserved c =
    emptied_next c.loop-k.invariant (omega arith) c.none_into.ensures

pub returns : goal.returns
returns c =
    λ ps l z e. placed_all l 35 ps _ _ (c.loop-k.invariant.laid ps l z e) (omega arith)
