-- `salvage::Part::length` meets its contract.
use Rattle.salvage.proofs.Around.{long_is, long_is_more}
use Rattle.salvage.proofs.Part.length.Goals as goal

pub returns-then-self-clause-value : goal.returns-then-self-clause-value
returns-then-self-clause-value c =
    rw c.count.ensures.length (long_is _ _ _ c.if-self.true)

pub returns-clause-value : goal.returns-clause-value
returns-clause-value c =
    rw c.count.ensures.length (long_is_more _ _ _ c.if-self.false)
