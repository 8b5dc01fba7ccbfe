-- The lent buffers of each export afterwards, by their names: the answer, the output, the store, the list. So that a law over a generated contract
-- says which is which.
-- Assumes nothing: these are definitions.
use Prim.Native.Nat.{ℕ}
use mathlib.Core.List.{List}
use contract.Lifetimes as L
use denote.Triple.Clauses.{AtExit}
use borrow.Fn.Kinds.{ended_of}
use Rattle.capi.proofs.orl_next_sequence_count.Kinds as next-kinds
use Rattle.capi.proofs.orl_read.Kinds as read-kinds
use Rattle.capi.proofs.orl_write.Kinds as write-kinds
use Rattle.capi.proofs.orl_after_packet.Kinds as after-packet-kinds
use Rattle.capi.proofs.orl_after_segment.Kinds as after-segment-kinds
use Rattle.capi.proofs.orl_cut_count.Kinds as cut-count-kinds
use Rattle.capi.proofs.orl_cut_packet.Kinds as cut-packet-kinds
use Rattle.capi.proofs.stored.orl_arrive.Kinds as arrive-kinds
use Rattle.capi.proofs.stored.orl_take.Kinds as take-kinds
use Rattle.capi.proofs.stored.orl_forget.Kinds as forget-kinds
use Rattle.capi.proofs.stored.orl_join.Kinds as join-kinds
use Rattle.capi.proofs.stored.orl_view.Kinds as view-kinds
use Rattle.capi.proofs.stored.orl_in_order.Kinds as in-order-kinds
use Rattle.capi.proofs.stored.orl_join_recording.Kinds as recording-kinds
use Rattle.capi.proofs.stored.orl_salvage.Kinds as salvage-kinds

-- `orl_next_sequence_count`
abbrev pub next_answer : (κs : L.Lfts 1) → AtExit (ended_of 1 next-kinds.ps next-kinds.r) κs → List ℕ
next_answer κs x = x.1.0.now

-- `orl_read`
abbrev pub read_answer : (κs : L.Lfts 2) → AtExit (ended_of 2 read-kinds.ps read-kinds.r) κs → List ℕ
read_answer κs x = x.1.1.1.0.now

-- `orl_write`
abbrev pub write_output_lem : (κs : L.Lfts 10) → AtExit (ended_of 10 write-kinds.ps write-kinds.r) κs → List ℕ
write_output_lem κs x = x.1.1.1.1.1.1.1.1.1.1.1.1.1.0.now

abbrev pub write_answer_lem : (κs : L.Lfts 10) → AtExit (ended_of 10 write-kinds.ps write-kinds.r) κs → List ℕ
write_answer_lem κs x = x.1.1.1.1.1.1.1.1.1.1.1.1.1.1.0.now

-- `orl_after_packet`
abbrev pub after_packet_answer : (κs : L.Lfts 2) → AtExit (ended_of 2 after-packet-kinds.ps after-packet-kinds.r) κs → List ℕ
after_packet_answer κs x = x.1.0.now

-- `orl_after_segment`
abbrev pub after_segment_answer : (κs : L.Lfts 2) → AtExit (ended_of 2 after-segment-kinds.ps after-segment-kinds.r) κs → List ℕ
after_segment_answer κs x = x.1.0.now

-- `orl_cut_count`
abbrev pub cut_count_answer : (κs : L.Lfts 9) → AtExit (ended_of 9 cut-count-kinds.ps cut-count-kinds.r) κs → List ℕ
cut_count_answer κs x = x.1.1.1.1.1.1.1.1.1.1.1.1.0.now

-- `orl_cut_packet`
abbrev pub cut_packet_output : (κs : L.Lfts 11) → AtExit (ended_of 11 cut-packet-kinds.ps cut-packet-kinds.r) κs → List ℕ
cut_packet_output κs x = x.1.1.1.1.1.1.1.1.1.1.1.1.1.0.now

abbrev pub cut_packet_answer : (κs : L.Lfts 11) → AtExit (ended_of 11 cut-packet-kinds.ps cut-packet-kinds.r) κs → List ℕ
cut_packet_answer κs x = x.1.1.1.1.1.1.1.1.1.1.1.1.1.1.0.now

-- `orl_arrive`
abbrev pub arrive_store : (κs : L.Lfts 3) → AtExit (ended_of 3 arrive-kinds.ps arrive-kinds.r) κs → List ℕ
arrive_store κs x = x.1.1.0.now

abbrev pub arrive_answer : (κs : L.Lfts 3) → AtExit (ended_of 3 arrive-kinds.ps arrive-kinds.r) κs → List ℕ
arrive_answer κs x = x.1.1.1.1.0.now

-- `orl_take`
abbrev pub take_store : (κs : L.Lfts 3) → AtExit (ended_of 3 take-kinds.ps take-kinds.r) κs → List ℕ
take_store κs x = x.1.1.0.now

abbrev pub take_output : (κs : L.Lfts 3) → AtExit (ended_of 3 take-kinds.ps take-kinds.r) κs → List ℕ
take_output κs x = x.1.1.1.0.now

abbrev pub take_answer : (κs : L.Lfts 3) → AtExit (ended_of 3 take-kinds.ps take-kinds.r) κs → List ℕ
take_answer κs x = x.1.1.1.1.0.now

-- `orl_forget`
abbrev pub forget_store : (κs : L.Lfts 2) → AtExit (ended_of 2 forget-kinds.ps forget-kinds.r) κs → List ℕ
forget_store κs x = x.1.1.0.now

abbrev pub forget_answer : (κs : L.Lfts 2) → AtExit (ended_of 2 forget-kinds.ps forget-kinds.r) κs → List ℕ
forget_answer κs x = x.1.1.1.1.0.now

-- `orl_join`
abbrev pub join_store : (κs : L.Lfts 4) → AtExit (ended_of 4 join-kinds.ps join-kinds.r) κs → List ℕ
join_store κs x = x.1.1.0.now

abbrev pub join_output : (κs : L.Lfts 4) → AtExit (ended_of 4 join-kinds.ps join-kinds.r) κs → List ℕ
join_output κs x = x.1.1.1.1.0.now

abbrev pub join_answer : (κs : L.Lfts 4) → AtExit (ended_of 4 join-kinds.ps join-kinds.r) κs → List ℕ
join_answer κs x = x.1.1.1.1.1.0.now

-- `orl_view`
abbrev pub view_answer : (κs : L.Lfts 3) → AtExit (ended_of 3 view-kinds.ps view-kinds.r) κs → List ℕ
view_answer κs x = x.1.1.1.1.1.0.now

-- `orl_in_order`
abbrev pub in_order_answer : (κs : L.Lfts 2) → AtExit (ended_of 2 in-order-kinds.ps in-order-kinds.r) κs → List ℕ
in_order_answer κs x = x.1.1.1.0.now

-- `orl_join_recording`
abbrev pub recording_output : (κs : L.Lfts 3) → AtExit (ended_of 3 recording-kinds.ps recording-kinds.r) κs → List ℕ
recording_output κs x = x.1.1.1.0.now

abbrev pub recording_answer : (κs : L.Lfts 3) → AtExit (ended_of 3 recording-kinds.ps recording-kinds.r) κs → List ℕ
recording_answer κs x = x.1.1.1.1.0.now

-- `orl_salvage`
abbrev pub salvage_list : (κs : L.Lfts 3) → AtExit (ended_of 3 salvage-kinds.ps salvage-kinds.r) κs → List ℕ
salvage_list κs x = x.1.1.1.1.1.1.0.now

abbrev pub salvage_answer : (κs : L.Lfts 3) → AtExit (ended_of 3 salvage-kinds.ps salvage-kinds.r) κs → List ℕ
salvage_answer κs x = x.1.1.1.1.1.1.1.0.now
