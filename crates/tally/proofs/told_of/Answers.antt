-- `tally::told_of` meets its contract: each answer is one of reading's, beside the lowest cell of the key; and the packet is accepted.
use mathlib.Core.Path.{ap, ◌∙◌}
use Rattle.packet.specs.Answer.{Header}
use Rattle.packet.specs.Reading.{refused_header}
use Rattle.walk.proofs.Refuses.{has_number}
use Rattle.tally.proofs.Judging.{told_fields}
use Rattle.tally.proofs.told_of.Goals as goal

pub returns-in-Ok : goal.returns-in-Ok
returns-in-Ok c =
    told_fields _ _ _ _ _ c.in-Ok.ensures.answer c.key_at.ensures

pub returns-in-Err : goal.returns-in-Err
unfolding refused_header
returns-in-Err c =
    absurd (has_number c.in-Err.field-0 (ap (λ (h : Header). h.refusal.number) c.in-Err.ensures.answer ∙ c.requires.asked.accepted))
