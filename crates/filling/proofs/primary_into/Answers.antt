-- `filling::primary_into` meets its contract.
use Rattle.packet.specs.Reading.{primary_of}
use Rattle.filling.proofs.primary_into.Goals as goal

pub returns : goal.returns
unfolding primary_of
returns c =
    simp (c.octet-first.ensures.value, c.word-apid.ensures.value, c.octet-third.ensures.value, c.word-count.ensures.value)
