-- `filling::transaction` meets its contract.
use Rattle.light.proofs.FixedPart.{number_eight}
use Rattle.filling.proofs.transaction.Goals as goal

pub returns : goal.returns
returns c =
    number_eight c.args.p.now c.double.ensures.value c.double-2.ensures.value
