-- The sender's two running numbers.
-- SPEC C-7: one step of the sequence count for each packet, one of the counter for each segment; after the largest of each comes 0.
-- Assumes nothing: these are definitions.
use Rattle.std.specs.Prelude.{ℕ, zero, suc}
use Rattle.packet.specs.declared.SegmentCounter.{SegmentCounter}
use Rattle.packet.specs.Numbers.{next_sequence_count, next_counter, next_segment_counter}
use Rattle.sender.specs.declared.Sender.{Sender}
use Rattle.sender.specs.declared.Sent.{Sent}
use Rattle.sender.specs.declared.Sent.TheVariants.{Whole, Segments}

-- n steps of `next` from a number on: segment i of a message has the counter i steps from the message's first
unfoldable pub steps_of : (ℕ → ℕ) → ℕ → ℕ → ℕ
steps_of next zero c = c
steps_of next (suc n) c = steps_of next n (next c)

-- the counter n segments on
abbrev pub counter_after : ℕ → SegmentCounter → SegmentCounter
counter_after n c = record { 0 = steps_of next_counter n c.0 }

-- the state after an unsegmented packet, and after a segment
unfoldable pub after_packet : Sender → Sender
after_packet d = record { sequence_count = next_sequence_count d.sequence_count; counter = d.counter }

unfoldable pub after_segment : Sender → Sender
after_segment d = record { sequence_count = next_sequence_count d.sequence_count; counter = next_segment_counter d.counter }

-- after n segments
unfoldable pub after_segments : ℕ → Sender → Sender
after_segments zero d = d
after_segments (suc n) d = after_segment (after_segments n d)

-- after a message, by how it is sent
unfoldable pub after_message : Sent → Sender → Sender
after_message Whole d = after_packet d
after_message (Segments n) d = after_segments n d
