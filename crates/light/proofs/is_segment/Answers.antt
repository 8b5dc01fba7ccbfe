-- `light::is_segment` meets its contract.
use Rattle.light.proofs.is_segment.Goals as goal

pub returns : goal.returns
returns c =
    simp c.octet.ensures.value
