-- The calls of the PDU for C: the lent buffers by their names; two outcomes that a contract allows for the same arguments have the same
-- answer and the same output; and each refusal is one of the call's list.
-- Assumes nothing.
use Prim.Native.Nat.{ℕ}
use mathlib.Core.Path.{◌≡◌, refl, sym, subst, ◌∙◌}
use mathlib.Core.List.{List, ◌∷◌}
use contract.Lifetimes as L
use denote.Triple.Clauses.{AtExit}
use borrow.Fn.Kinds.{ended_of}
use Rattle.write.specs.Given.{Lent}
use Rattle.pdu.specs.Reading.{read_pdu}
use Rattle.flat_pdu.specs.Numbers.{pdu_fits, read_numbers, write_numbers}
use Rattle.format.proofs.Refusals.{picked}
use Rattle.numbers.specs.Lists.{of_pdu_reading, of_pdu_writing}
use Rattle.numbers.proofs.Among.{among}
use Rattle.numbers.proofs.Pdus.{pdu_reading, pdu_writing}
use Rattle.capi.proofs.Numbered.{Refuses}
use Rattle.capi.proofs.pdus.orl_pdu_read.Kinds as read-kinds
use Rattle.capi.proofs.pdus.orl_pdu_read.Reads as reads
use Rattle.capi.proofs.pdus.orl_pdu_write.Kinds as write-kinds
use Rattle.capi.proofs.pdus.orl_pdu_write.Reads as writes

-- `orl_pdu_read`
abbrev pub pdu_read_answer : (κs : L.Lfts 2) → AtExit (ended_of 2 read-kinds.ps read-kinds.r) κs → List ℕ
pdu_read_answer κs x = x.1.0.now

-- `orl_pdu_write`
abbrev pub pdu_write_output : (κs : L.Lfts 12) → AtExit (ended_of 12 write-kinds.ps write-kinds.r) κs → List ℕ
pdu_write_output κs x = x.1.1.1.1.1.1.1.1.1.1.0.now

abbrev pub pdu_write_answer : (κs : L.Lfts 12) → AtExit (ended_of 12 write-kinds.ps write-kinds.r) κs → List ℕ
pdu_write_answer κs x = x.1.1.1.1.1.1.1.1.1.1.1.0.now

pub pdu_read_same_answer :
    (κs : L.Lfts 2) (a : _) (r q : _) (s t : _) → reads.Post κs a r s → reads.Post κs a q t → pdu_read_answer κs s ≡ pdu_read_answer κs t
pdu_read_same_answer κs a r q s t k j = k ∙ sym j

pub pdu_write_same_answer :
    (κs : L.Lfts 12) (a : _) (r q : _) (s t : _) → writes.Post κs a r s → writes.Post κs a q t → pdu_write_answer κs s ≡ pdu_write_answer κs t
pdu_write_same_answer κs a r q s t k j = k.0 ∙ sym j.0

pub pdu_write_same_output :
    (κs : L.Lfts 12) (a : _) (r q : _) (s t : _) → writes.Post κs a r s → writes.Post κs a q t → pdu_write_output κs s ≡ pdu_write_output κs t
pdu_write_same_output κs a r q s t k j = k.1 ∙ sym j.1

-- ---- the refusals

read : (p : List ℕ) → Refuses of_pdu_reading (read_numbers (read_pdu p))
unfolding read_numbers
read p = pdu_reading p

write :
    (l source destination : List ℕ) (x : Lent) (body : List ℕ) (room : ℕ) → Refuses of_pdu_writing (write_numbers l source destination x body room)
unfolding write_numbers
write l source destination x body room =
    picked (Refuses of_pdu_writing) (pdu_fits l) _ _ (pdu_writing _ _ _ _ _ _) (among (0 ∷ of_pdu_writing) 22 refl)

pub pdu_read_numbered : (κs : L.Lfts 2) (a : _) (r : _) (x : _) → reads.Post κs a r x → Refuses of_pdu_reading (pdu_read_answer κs x)
pdu_read_numbered κs a r x k = subst (Refuses of_pdu_reading) (sym k) (read _)

pub pdu_write_numbered : (κs : L.Lfts 12) (a : _) (r : _) (x : _) → writes.Post κs a r x → Refuses of_pdu_writing (pdu_write_answer κs x)
pdu_write_numbered κs a r x k = subst (Refuses of_pdu_writing) (sym k.0) (write _ _ _ _ _ _)
