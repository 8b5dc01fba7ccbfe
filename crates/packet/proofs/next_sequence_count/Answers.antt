-- `packet::next_sequence_count` meets its contract: one packet on.
use mathlib.Core.Path.{◌∙◌}
use Rattle.packet.proofs.Counts.{count_next}
use Rattle.packet.proofs.next_sequence_count.Goals as goal

pub returns : goal.returns
returns c =
    c.sequence_count_after.ensures ∙ count_next _
