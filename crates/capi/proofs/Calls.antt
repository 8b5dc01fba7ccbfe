-- Two outcomes that the contract of an export allows for the same arguments have the same answer, and the same octets in the output
-- (M-7). Exports return nothing: the answer is the lent array.
-- Assumes nothing.
use mathlib.Core.Path.{◌≡◌, sym, ◌∙◌}
use contract.Lifetimes as L
use Rattle.capi.proofs.Buffers.{next_answer, read_answer, write_answer_lem, write_output_lem, after_packet_answer, after_segment_answer, cut_count_answer}
use Rattle.capi.proofs.Buffers.{cut_packet_answer, cut_packet_output}
use Rattle.capi.proofs.orl_next_sequence_count.Reads as nexts
use Rattle.capi.proofs.orl_read.Reads as reads
use Rattle.capi.proofs.orl_write.Reads as writes
use Rattle.capi.proofs.orl_after_packet.Reads as packeted
use Rattle.capi.proofs.orl_after_segment.Reads as segmented
use Rattle.capi.proofs.orl_cut_count.Reads as counts
use Rattle.capi.proofs.orl_cut_packet.Reads as cuts

-- ---- `orl_next_sequence_count`

pub next_same_answer :
    (κs : L.Lfts 1) (a : _) (r q : _) (s t : _) → nexts.Post κs a r s → nexts.Post κs a q t →
    next_answer κs s ≡ next_answer κs t
next_same_answer κs a r q s t k j = k ∙ sym j

-- ---- `orl_read`

pub read_same_answer :
    (κs : L.Lfts 2) (a : _) (r q : _) (s t : _) → reads.Post κs a r s → reads.Post κs a q t →
    read_answer κs s ≡ read_answer κs t
read_same_answer κs a r q s t k j = k ∙ sym j

-- ---- `orl_write`

pub write_same_answer :
    (κs : L.Lfts 10) (a : _) (r q : _) (s t : _) → writes.Post κs a r s → writes.Post κs a q t →
    write_answer_lem κs s ≡ write_answer_lem κs t
write_same_answer κs a r q s t k j = k.0 ∙ sym j.0

pub write_same_output :
    (κs : L.Lfts 10) (a : _) (r q : _) (s t : _) → writes.Post κs a r s → writes.Post κs a q t →
    write_output_lem κs s ≡ write_output_lem κs t
write_same_output κs a r q s t k j = k.1 ∙ sym j.1

-- ---- `orl_after_packet`

pub after_packet_same_answer :
    (κs : L.Lfts 2) (a : _) (r q : _) (s t : _) → packeted.Post κs a r s → packeted.Post κs a q t →
    after_packet_answer κs s ≡ after_packet_answer κs t
after_packet_same_answer κs a r q s t k j = k ∙ sym j

-- ---- `orl_after_segment`

pub after_segment_same_answer :
    (κs : L.Lfts 2) (a : _) (r q : _) (s t : _) → segmented.Post κs a r s → segmented.Post κs a q t →
    after_segment_answer κs s ≡ after_segment_answer κs t
after_segment_same_answer κs a r q s t k j = k ∙ sym j

-- ---- `orl_cut_count`

pub cut_count_same_answer :
    (κs : L.Lfts 9) (a : _) (r q : _) (s t : _) → counts.Post κs a r s → counts.Post κs a q t →
    cut_count_answer κs s ≡ cut_count_answer κs t
cut_count_same_answer κs a r q s t k j = k ∙ sym j

-- ---- `orl_cut_packet`

pub cut_packet_same_answer :
    (κs : L.Lfts 11) (a : _) (r q : _) (s t : _) → cuts.Post κs a r s → cuts.Post κs a q t →
    cut_packet_answer κs s ≡ cut_packet_answer κs t
cut_packet_same_answer κs a r q s t k j = k.0 ∙ sym j.0

pub cut_packet_same_output :
    (κs : L.Lfts 11) (a : _) (r q : _) (s t : _) → cuts.Post κs a r s → cuts.Post κs a q t →
    cut_packet_output κs s ≡ cut_packet_output κs t
cut_packet_same_output κs a r q s t k j = k.1 ∙ sym j.1
