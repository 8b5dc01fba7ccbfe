-- `packet::segmented` meets its contract.
use Rattle.packet.proofs.segmented.Goals as goal

pub returns : goal.returns
returns c =
    simp c.octet.ensures
