-- `salvage::Part::till` meets its contract.
use native.Mathlib.Omega.{arith}
use Rattle.salvage.proofs.Around.{till_ends, till_more}
use Rattle.salvage.proofs.Part.till.Goals as goal

pub returns-then-self : goal.returns-then-self
returns-then-self c =
    till_ends _ _ _ c.if-self.true

pub returns : goal.returns
returns c =
    till_more _ _ _ c.if-self.false (omega arith)
