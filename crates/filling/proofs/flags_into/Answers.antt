-- `filling::flags_into` meets its contract.
use Rattle.filling.proofs.FixedPart.{flags_laid}
use Rattle.filling.proofs.flags_into.Goals as goal

pub returns : goal.returns
returns c =
    flags_laid c.args.answer.now c.args.f
