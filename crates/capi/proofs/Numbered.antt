-- Demand 1 for C: over the generated contract of each export, the first number of the answer is 0 or one of the call's own list. 22 is
-- given too if a number is too wide for its field, or names no buffer.
-- Assumes nothing.
use Prim.Native.Nat.{ℕ}
use mathlib.Core.Path.{refl, sym, subst}
use mathlib.Core.List.{List, ◌∷◌}
use contract.Lifetimes as L
use lib.ListN.{length}
use lib.Dec.{leb, eqb}
use Rattle.octets.specs.Octets.{octet_at as number_at}
use Rattle.walk.specs.declared.Settings.{Settings}
use Rattle.packet.specs.Reading.{read_packet}
use Rattle.write.specs.Given.{Lent}
use Rattle.write.specs.Writing.{write_answer}
use Rattle.cut.specs.Cutting.{count_answer, packet_answer}
use Rattle.flat.specs.Told.{read_numbers}
use Rattle.flat.specs.Given.{sender_fits}
use Rattle.flat.specs.Answers.{next_numbers, write_fits, write_numbers, after_packet_numbers, after_segment_numbers, cut_fits, count_numbers, packet_numbers}
use Rattle.cells.specs.Order.{cell_size, gate}
use Rattle.flat_store.specs.Numbers.{order_numbers}
use Rattle.flat_store.specs.Views.{inside_numbers, view_numbers}
use Rattle.numbers.specs.Lists.{Numbered, of_reading, of_arrival, of_taking, of_forgetting, of_joining, of_recording, of_salvage, of_order, of_widths, of_writing, of_count, of_cutting}
use Rattle.format.proofs.Refusals.{picked}
use Rattle.numbers.proofs.Among.{among}
use Rattle.numbers.proofs.Reading.{reading}
use Rattle.numbers.proofs.Sending.{writing, write_wide, count, count_wide, cutting, cut_wide}
use Rattle.numbers.proofs.Store.{arrival, taking, forgetting, join, order, all}
use Rattle.numbers.proofs.Salvaging.{salvaging}
use Rattle.capi.proofs.Buffers.{next_answer, read_answer, write_answer_lem, after_packet_answer, after_segment_answer, cut_count_answer, cut_packet_answer}
use Rattle.capi.proofs.Buffers.{arrive_answer, take_answer, forget_answer, join_answer, view_answer, in_order_answer, recording_answer, salvage_answer}
use Rattle.capi.proofs.orl_next_sequence_count.Reads as nexts
use Rattle.capi.proofs.orl_read.Reads as reads
use Rattle.capi.proofs.orl_write.Reads as writes
use Rattle.capi.proofs.orl_after_packet.Reads as packeted
use Rattle.capi.proofs.orl_after_segment.Reads as segmented
use Rattle.capi.proofs.orl_cut_count.Reads as counts
use Rattle.capi.proofs.orl_cut_packet.Reads as cuts
use Rattle.capi.proofs.stored.orl_arrive.Reads as arrives
use Rattle.capi.proofs.stored.orl_take.Reads as takes
use Rattle.capi.proofs.stored.orl_forget.Reads as forgets
use Rattle.capi.proofs.stored.orl_join.Reads as joins
use Rattle.capi.proofs.stored.orl_view.Reads as views
use Rattle.capi.proofs.stored.orl_in_order.Reads as orders
use Rattle.capi.proofs.stored.orl_join_recording.Reads as recordings
use Rattle.capi.proofs.stored.orl_salvage.Reads as salvages

-- the refusal in an answer: its first number
abbrev pub refusal_in : List ℕ → ℕ
refusal_in l = number_at l 0

-- an answer's refusal is one of a list
abbrev pub Refuses : List ℕ → List ℕ → Type 0
Refuses k l = Numbered k (refusal_in l)

-- ---- over the numbers

next : (count : ℕ) → Refuses of_widths (next_numbers count)
unfolding next_numbers
next count = picked (Refuses of_widths) (leb count _) _ _ (among (0 ∷ of_widths) 0 refl) (among (0 ∷ of_widths) 22 refl)

read : (s : Settings) (p : List ℕ) → Refuses of_reading (read_numbers (read_packet s p))
unfolding read_numbers
read s p = reading s p

write : (s : Settings) (h : List ℕ) (x : Lent) (flags count counter : ℕ) (body : List ℕ) (room : ℕ) → Refuses of_writing (write_numbers s h x flags count counter body room)
unfolding write_numbers write_answer
write s h x flags count counter body room =
    picked (Refuses of_writing) (write_fits h flags count counter) _ _ (writing _ _ _ _ _ _ _) (write_wide s)

after_packet_lem : (d : List ℕ) → Refuses of_widths (after_packet_numbers d)
unfolding after_packet_numbers
after_packet_lem d = picked (Refuses of_widths) (sender_fits d) _ _ (among (0 ∷ of_widths) 0 refl) (among (0 ∷ of_widths) 22 refl)

after_segment_lem : (d : List ℕ) → Refuses of_widths (after_segment_numbers d)
unfolding after_segment_numbers
after_segment_lem d = picked (Refuses of_widths) (sender_fits d) _ _ (among (0 ∷ of_widths) 0 refl) (among (0 ∷ of_widths) 22 refl)

cut_count : (s : Settings) (P : ℕ) (h : List ℕ) (x : Lent) (B : ℕ) (d : List ℕ) → Refuses of_count (count_numbers s P h x B d)
unfolding count_numbers count_answer
cut_count s P h x B d = picked (Refuses of_count) (cut_fits h d) _ _ (count _ _ _ _ _ _ _) (count_wide s P)

cut_packet : (s : Settings) (P : ℕ) (h : List ℕ) (x : Lent) (body d : List ℕ) (i room : ℕ) → Refuses of_cutting (packet_numbers s P h x body d i room)
unfolding packet_numbers packet_answer
cut_packet s P h x body d i room =
    picked (Refuses of_cutting) (cut_fits h d) _ _ (cutting _ _ _ _ _ _ _ _ _) (cut_wide s P)

inside : (n place long : ℕ) → Refuses of_widths (inside_numbers n place long)
unfolding inside_numbers
inside n place long = picked (Refuses of_widths) (leb _ n) _ _ (among (0 ∷ of_widths) 0 refl) (among (0 ∷ of_widths) 0 refl)

view : (w : ℕ) (p j : List ℕ) (place long : ℕ) → Refuses of_widths (view_numbers w p j place long)
unfolding view_numbers
view w p j place long =
    picked (Refuses of_widths) (eqb w 0) _ _ (inside 0 place long)
    (picked (Refuses of_widths) (eqb w 1) _ _ (inside (length p) place long)
    (picked (Refuses of_widths) (eqb w 2) _ _ (inside (length j) place long) (among (0 ∷ of_widths) 22 refl)))

in_order_lem : (s : Settings) (st : List ℕ) → Refuses of_order (order_numbers s cell_size st)
unfolding order_numbers
in_order_lem s st =
    picked (Refuses of_order) (eqb (gate s cell_size st) 0) _ _ (among (0 ∷ of_order) 0 refl) (order s cell_size st)

-- ---- the exports, in the order of the header

pub next_sequence_count_numbered :
    (κs : L.Lfts 1) (a : _) (r : _) (x : _) → nexts.Post κs a r x → Refuses of_widths (next_answer κs x)
next_sequence_count_numbered κs a r x k = subst (Refuses of_widths) (sym k) (next _)

pub read_numbered : (κs : L.Lfts 2) (a : _) (r : _) (x : _) → reads.Post κs a r x → Refuses of_reading (read_answer κs x)
read_numbered κs a r x k = subst (Refuses of_reading) (sym k) (read _ _)

pub write_numbered :
    (κs : L.Lfts 10) (a : _) (r : _) (x : _) → writes.Post κs a r x → Refuses of_writing (write_answer_lem κs x)
write_numbered κs a r x k = subst (Refuses of_writing) (sym k.0) (write _ _ _ _ _ _ _ _)

pub after_packet_numbered : (κs : L.Lfts 2) (a : _) (r : _) (x : _) → packeted.Post κs a r x → Refuses of_widths (after_packet_answer κs x)
after_packet_numbered κs a r x k = subst (Refuses of_widths) (sym k) (after_packet_lem _)

pub after_segment_numbered : (κs : L.Lfts 2) (a : _) (r : _) (x : _) → segmented.Post κs a r x → Refuses of_widths (after_segment_answer κs x)
after_segment_numbered κs a r x k = subst (Refuses of_widths) (sym k) (after_segment_lem _)

pub cut_count_numbered :
    (κs : L.Lfts 9) (a : _) (r : _) (x : _) → counts.Post κs a r x → Refuses of_count (cut_count_answer κs x)
cut_count_numbered κs a r x k = subst (Refuses of_count) (sym k) (cut_count _ _ _ _ _ _)

pub cut_packet_numbered :
    (κs : L.Lfts 11) (a : _) (r : _) (x : _) → cuts.Post κs a r x → Refuses of_cutting (cut_packet_answer κs x)
cut_packet_numbered κs a r x k = subst (Refuses of_cutting) (sym k.0) (cut_packet _ _ _ _ _ _ _ _)

pub arrive_numbered : (κs : L.Lfts 3) (a : _) (r : _) (x : _) → arrives.Post κs a r x → Refuses of_arrival (arrive_answer κs x)
arrive_numbered κs a r x k = subst (Refuses of_arrival) (sym k.0) (arrival _ _ _ _)

pub take_numbered : (κs : L.Lfts 3) (a : _) (r : _) (x : _) → takes.Post κs a r x → Refuses of_taking (take_answer κs x)
take_numbered κs a r x k = subst (Refuses of_taking) (sym k.0) (taking _ _ _ _)

pub forget_numbered : (κs : L.Lfts 2) (a : _) (r : _) (x : _) → forgets.Post κs a r x → Refuses of_forgetting (forget_answer κs x)
forget_numbered κs a r x k = subst (Refuses of_forgetting) (sym k.0) (forgetting _ _ _ _)

pub join_numbered : (κs : L.Lfts 4) (a : _) (r : _) (x : _) → joins.Post κs a r x → Refuses of_joining (join_answer κs x)
join_numbered κs a r x k = subst (Refuses of_joining) (sym k.0) (join _ _ _ _ _)

pub view_numbered : (κs : L.Lfts 3) (a : _) (r : _) (x : _) → views.Post κs a r x → Refuses of_widths (view_answer κs x)
view_numbered κs a r x k = subst (Refuses of_widths) (sym k) (view _ _ _ _ _)

pub in_order_numbered : (κs : L.Lfts 2) (a : _) (r : _) (x : _) → orders.Post κs a r x → Refuses of_order (in_order_answer κs x)
in_order_numbered κs a r x k = subst (Refuses of_order) (sym k) (in_order_lem _ _)

pub join_recording_numbered :
    (κs : L.Lfts 3) (a : _) (r : _) (x : _) → recordings.Post κs a r x → Refuses of_recording (recording_answer κs x)
join_recording_numbered κs a r x k = subst (Refuses of_recording) (sym k.0) (all _ _ _)

pub salvage_numbered : (κs : L.Lfts 3) (a : _) (r : _) (x : _) → salvages.Post κs a r x → Refuses of_salvage (salvage_answer κs x)
salvage_numbered κs a r x k = subst (Refuses of_salvage) (sym k.0) (salvaging _ _ _ _ _)
