-- `carry::to_pdu` meets its contract: the refusal of the reading, or what is written.
use mathlib.Core.Path.{refl, ◌∙◌}
use Rattle.walk.proofs.Refuses.{has_number}
use Rattle.packet.specs.Decoded.{whole}
use Rattle.carry.proofs.Sent.{refused_there, ready, written_there, all_told}
use Rattle.carry.proofs.to_pdu.Goals as goal

pub write_pdu-requires : goal.write_pdu-requires
write_pdu-requires c =
    ready _ _ _ c.in-Ok.ensures (λ i. (c.type_inv.m i).fits) refl

pub returns-in-Ok-clause-answer : goal.returns-in-Ok-clause-answer
returns-in-Ok-clause-answer c =
    written_there _ _ _ _ c.in-Ok.ensures refl c.write_pdu.ensures

pub returns-in-Err-clause-answer : goal.returns-in-Err-clause-answer
returns-in-Err-clause-answer c =
    all_told _ _ _ _ _ c.in-Err.ensures (has_number _) c.number.ensures c.octets.ensures c.place.ensures c.telling.ensures
