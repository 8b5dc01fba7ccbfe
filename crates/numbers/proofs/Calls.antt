-- Demand 1: a refusal's number is one of SPEC's list for its call. Over the generated contract of each public
-- call that can refuse: the number in its answer is 0 or one of the call's own list.
-- Assumes nothing.
use mathlib.Core.Path.{sym, subst}
use contract.Lifetimes as L
use Rattle.packet.specs.Answer.{Header}
use Rattle.packet.specs.Decoded.{decoded}
use Rattle.packet.proofs.read.Reads as reads
use Rattle.write.specs.Answer.{Written, written}
use Rattle.write.specs.Writing.{write_answer}
use Rattle.write.proofs.write.Reads as writes
use Rattle.cut.specs.declared.Counted.{Counted}
use Rattle.cut.specs.declared.Cut.{Cut}
use Rattle.cut.specs.Cutting.{count_answer, packet_answer}
use Rattle.cut.proofs.count.Reads as counts
use Rattle.cut.proofs.packet.Reads as cuts
use Rattle.taking.specs.Answer.{Taken}
use Rattle.arrival.specs.Answer.{Arrival}
use Rattle.arrival.specs.Told.{said}
use Rattle.walk.specs.Told.{said as refusal_said}
use Rattle.arrival.specs.Answer.{arrival_answer}
use Rattle.taking.specs.Answer.{taken_answer}
use Rattle.join.specs.Answer.{joined_answer}
use Rattle.store.proofs.arrive.Reads as arrives
use Rattle.store.proofs.take.Reads as takes
use Rattle.store.proofs.forget.Reads as forgets
use Rattle.walk.specs.declared.Refusal.{Refusal}
use Rattle.join.specs.Answer.{Joined}
use Rattle.join.proofs.join.Reads as joins
use Rattle.recording.specs.Answer.{Recorded, answered as all_answered}
use Rattle.recording.proofs.join_all.Reads as alls
use Rattle.salvage.specs.Answer.{Salvaged, answered}
use Rattle.salvage.proofs.salvage.Reads as salvages
use Rattle.salvage.proofs.salvage_part.Reads as parts
use Rattle.pdu.specs.declared.Header.{Header as PduHeader}
use Rattle.pdu.specs.declared.Written.{Written as PduWritten}
use Rattle.pdu.proofs.read.Reads as pdu-reads
use Rattle.pdu.proofs.write.Reads as pdu-writes
use Rattle.carry.specs.declared.Carried.{Carried}
use Rattle.carry.proofs.to_pdu.Reads as there
use Rattle.carry.proofs.to_message.Reads as back
use Rattle.numbers.specs.Lists.{Numbered, of_reading, of_arrival, of_taking, of_forgetting, of_joining, of_recording, of_salvage, of_writing, of_count, of_cutting}
use Rattle.numbers.specs.Lists.{of_pdu_reading, of_pdu_writing, of_to_pdu, of_to_message}
use Rattle.numbers.proofs.Reading.{reading}
use Rattle.numbers.proofs.Sending.{writing, count, cutting}
use Rattle.numbers.proofs.Store.{arrival, taking, forgetting, join, all}
use Rattle.numbers.proofs.Salvaging.{salvaging, salvaging_part}
use Rattle.numbers.proofs.Pdus.{pdu_reading, pdu_writing}
use Rattle.numbers.proofs.Carrying.{to_pdu, to_message}

pub read_numbered : (κs : L.Lfts 1) (a : _) (r : _) (x : _) → reads.Post κs a r x → Numbered of_reading (decoded r).refusal.number
read_numbered κs a r x k = subst (λ (h : Header). Numbered of_reading h.refusal.number) (sym k.0) (reading _ _)

pub write_numbered : (κs : L.Lfts 3) (a : _) (r : _) (x : _) → writes.Post κs a r x → Numbered of_writing (written r).refusal.number
unfolding write_answer
write_numbered κs a r x k = subst (λ (h : Written). Numbered of_writing h.refusal.number) (sym k.0) (writing _ _ _ _ _ _ _)

pub count_numbered : (κs : L.Lfts 1) (a : _) (r : _) (x : _) → counts.Post κs a r x → Numbered of_count r.refusal.number
unfolding count_answer
count_numbered κs a r x k = subst (λ (h : Counted). Numbered of_count h.refusal.number) (sym k) (count _ _ _ _ _ _ _)

pub packet_numbered : (κs : L.Lfts 3) (a : _) (r : _) (x : _) → cuts.Post κs a r x → Numbered of_cutting r.refusal.number
unfolding packet_answer
packet_numbered κs a r x k = subst (λ (h : Cut). Numbered of_cutting h.refusal.number) (sym k.0) (cutting _ _ _ _ _ _ _ _ _)

pub arrive_numbered : (κs : L.Lfts 2) (a : _) (r : _) (x : _) → arrives.Post κs a r x → Numbered of_arrival (said (arrival_answer r)).refusal.number
arrive_numbered κs a r x k = subst (λ (h : Arrival). Numbered of_arrival (said h).refusal.number) (sym k.0) (arrival _ _ _ _)

pub take_numbered : (κs : L.Lfts 2) (a : _) (r : _) (x : _) → takes.Post κs a r x → Numbered of_taking (taken_answer r).refusal.number
take_numbered κs a r x k = subst (λ (h : Taken). Numbered of_taking h.refusal.number) (sym k.0) (taking _ _ _ _)

pub forget_numbered : (κs : L.Lfts 1) (a : _) (r : _) (x : _) → forgets.Post κs a r x → Numbered of_forgetting (refusal_said r).number
forget_numbered κs a r x k = subst (λ (h : Refusal). Numbered of_forgetting h.number) (sym k.0) (forgetting _ _ _ _)

pub join_numbered : (κs : L.Lfts 3) (a : _) (r : _) (x : _) → joins.Post κs a r x → Numbered of_joining (joined_answer r).refusal.number
join_numbered κs a r x k = subst (λ (h : Joined). Numbered of_joining h.refusal.number) (sym k.0) (join _ _ _ _ _)

pub join_all_numbered : (κs : L.Lfts 2) (a : _) (r : _) (x : _) → alls.Post κs a r x → Numbered of_recording (all_answered r).refusal.number
join_all_numbered κs a r x k = subst (λ (h : Recorded). Numbered of_recording h.refusal.number) (sym k.0) (all _ _ _)

pub salvage_numbered : (κs : L.Lfts 2) (a : _) (r : _) (x : _) → salvages.Post κs a r x → Numbered of_salvage (answered r).refusal.number
salvage_numbered κs a r x k = subst (λ (h : Salvaged). Numbered of_salvage h.refusal.number) (sym k.0) (salvaging _ _ _ _ _)

pub salvage_part_numbered : (κs : L.Lfts 2) (a : _) (r : _) (x : _) → parts.Post κs a r x → Numbered of_salvage (answered r).refusal.number
salvage_part_numbered κs a r x k =
    subst (λ (h : Salvaged). Numbered of_salvage h.refusal.number) (sym k.0) (salvaging_part _ _ _ _ _ _ _)

pub pdu_read_numbered : (κs : L.Lfts 1) (a : _) (r : _) (x : _) → pdu-reads.Post κs a r x → Numbered of_pdu_reading r.refusal.number
pdu_read_numbered κs a r x k = subst (λ (h : PduHeader). Numbered of_pdu_reading h.refusal.number) (sym k.0) (pdu_reading _)

pub pdu_write_numbered : (κs : L.Lfts 5) (a : _) (r : _) (x : _) → pdu-writes.Post κs a r x → Numbered of_pdu_writing r.refusal.number
pdu_write_numbered κs a r x k =
    subst (λ (h : PduWritten). Numbered of_pdu_writing h.refusal.number) (sym k.0) (pdu_writing _ _ _ _ _ _)

pub to_pdu_numbered : (κs : L.Lfts 2) (a : _) (r : _) (x : _) → there.Post κs a r x → Numbered of_to_pdu r.refusal.number
to_pdu_numbered κs a r x k = subst (λ (h : PduWritten). Numbered of_to_pdu h.refusal.number) (sym k.0.0) (to_pdu _ _ _ _)

pub to_message_numbered : (κs : L.Lfts 2) (a : _) (r : _) (x : _) → back.Post κs a r x → Numbered of_to_message r.refusal.number
to_message_numbered κs a r x k = subst (λ (h : Carried). Numbered of_to_message h.refusal.number) (sym k.0.0) (to_message _ _ _ _)
