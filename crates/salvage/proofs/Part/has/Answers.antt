-- `salvage::Part::has` meets its contract: the sum is tested by a difference.
use native.Mathlib.Omega.{arith}
use Rattle.salvage.proofs.Answering.{lies_not, holds_is}
use Rattle.salvage.proofs.Part.has.Goals as goal
use Rattle.salvage.proofs.Part.has.Goals.{then-self-gt-OFF_MOST-via-then-self-gt-OFF_MOST, then-self-gt-OFF_MOST-via-else-self-gt-OFF_MOST+then-self-n}
use Rattle.salvage.proofs.Part.has.Goals.{then-stop-via-then-stop, then-stop-via-else-stop+then-stop-self}

pub returns-then-self-gt-OFF_MOST : goal.returns-then-self-gt-OFF_MOST
returns-then-self-gt-OFF_MOST c =
    lies_not _ _ _
    (λ i. elim c.then-self-gt-OFF_MOST.branch [
      | then-self-gt-OFF_MOST-via-then-self-gt-OFF_MOST w ↦ omega (arith, i.most)
      | then-self-gt-OFF_MOST-via-else-self-gt-OFF_MOST+then-self-n w ↦ omega (arith, i.most)
    ])

pub returns-then-stop : goal.returns-then-stop
returns-then-stop c =
    lies_not _ _ _
    (λ i. elim c.then-stop.branch [
      | then-stop-via-then-stop w ↦ omega (arith, i.order)
      | then-stop-via-else-stop+then-stop-self w ↦ omega (arith, i.low)
    ])

pub returns : goal.returns
returns c =
    holds_is _ _ _ (omega arith) (omega arith) (omega arith)
