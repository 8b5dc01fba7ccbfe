-- `packet::flags_of` meets its contract: each flag is the definition's.
use mathlib.Core.Path.{refl}
use Rattle.packet.specs.FixedPart.{flags_of}
use Rattle.packet.proofs.flags_of.Goals as goal

pub returns : goal.returns
unfolding flags_of
returns c =
    refl
