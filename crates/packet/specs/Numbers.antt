-- The sequence count's next value, and its value some packets on. SPEC P-5. And the segment counter's next value. SPEC C-6.
-- Assumes nothing: these are definitions.
use Rattle.std.specs.Prelude.{ℕ, zero, suc, leb, eqb}
use Rattle.octets.specs.Octets.{pick, most32}
use Rattle.packet.specs.declared.SequenceCount.{SequenceCount}
use Rattle.packet.specs.declared.SegmentCounter.{SegmentCounter}

-- the largest of 14 bits
abbrev pub count_most : ℕ
count_most = 16383

unfoldable pub next_count : ℕ → ℕ
next_count c = pick (leb count_most c) 0 (suc c)

abbrev pub next_sequence_count : SequenceCount → SequenceCount
next_sequence_count c = record { 0 = next_count c.0 }

-- n packets on: by one for each
unfoldable pub count_at : ℕ → ℕ → ℕ
count_at c zero = c
count_at c (suc n) = next_count (count_at c n)

abbrev pub sequence_count_at : SequenceCount → ℕ → SequenceCount
sequence_count_at c n = record { 0 = count_at c.0 n }

-- ---- the segment counter

-- 0 follows the largest of 32 bits. Of larger numbers, which no counter is, it is one more: so different numbers have different next ones
unfoldable pub next_counter : ℕ → ℕ
next_counter c = pick (eqb c most32) 0 (suc c)

abbrev pub next_segment_counter : SegmentCounter → SegmentCounter
next_segment_counter c = record { 0 = next_counter c.0 }

-- the most segments of a message, and so the most steps from its first to its last
abbrev pub segments_most : ℕ
segments_most = 4096

abbrev pub steps_most : ℕ
steps_most = 4095
