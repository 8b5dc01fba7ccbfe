-- The messages of demand 3 (DEMANDS 3.2), cut in any way: header values, a first
-- counter, and the bodies of the segments, of any lengths. Segment i is the format's octets of these values with the counter i steps
-- from the first, flags 01, 00 .., 10, body i, and any sequence count.
-- Assumes nothing: these are definitions.
use Rattle.std.specs.Prelude.{ℕ, suc, ◌+◌, ◌-◌, ◌≤◌, ◌<◌, ◌≡◌, true, List, [], ◌++◌, length, get_or, eqb}
use Rattle.octets.specs.Octets.{pick}
use Rattle.octets.specs.Laying.{together}
use Rattle.walk.specs.declared.Settings.{Settings}
use Rattle.packet.specs.Format.{Head, Values, identification, header_octets, octets_of, InRange}
use Rattle.packet.specs.Reading.{read_packet, segmented}
use Rattle.packet.specs.Numbers.{next_counter, segments_most}
use Rattle.cells.specs.Segments.{Seg, seg_of}
use Rattle.cells.specs.Rows.{Range, record_row}
use Rattle.sender.specs.Sending.{steps_of}

-- a message as it was cut: what all its packets share, its first counter, and the bodies of its segments
pub record Sending : Type 0 where
  pub head : Head
  pub start : ℕ
  pub bodies : List (List ℕ)

-- the message's body
abbrev pub whole_body : Sending → List ℕ
whole_body m = together m.bodies

-- the sequence flags of segment i of n: 01 the first, 10 the last, 00 between
unfoldable pub flags_in : ℕ → ℕ → ℕ
flags_in n i = pick (eqb i 0) 1 (pick (eqb (suc i) n) 2 0)

-- the packet reads as this segment: key, counter, flags and body are the segment's; the sequence count may be any
pub record ReadsAs (s : Settings) (p : List ℕ) (t : Seg) : Type 0 where
  pub accepted : (read_packet s p).refusal.number ≡ 0
  pub segmented : segmented p ≡ true
  pub segment : seg_of p (read_packet s p) ≡ t

module _ (s : Settings) where
  -- its number of segments
  abbrev pub many_of : Sending → ℕ
  many_of m = length m.bodies

  -- the counters of its first and of segment i, and the steps from its first to its last
  abbrev pub start_of : Sending → ℕ
  start_of m = m.start

  abbrev pub counter_in : Sending → ℕ → ℕ
  counter_in m i = steps_of next_counter i (start_of m)

  abbrev pub steps_to : Sending → ℕ
  steps_to m = many_of m - 1

  -- the values of segment i, with this sequence count
  abbrev pub values_at : Sending → ℕ → ℕ → Values
  values_at m i c =
      record {
        head = m.head;
        flags = flags_in (many_of m) i;
        sequence_count = c;
        counter = counter_in m i;
        body = get_or m.bodies i [];
      }

  -- and its packet
  abbrev pub packet_with : Sending → ℕ → ℕ → List ℕ
  packet_with m i c = octets_of s (values_at m i c)

  -- identification, and the secondary header without its counter
  abbrev pub identification_of : Sending → List ℕ
  identification_of m = identification m.head

  abbrev pub header_of : Sending → List ℕ
  header_of m = header_octets s m.head

  -- the key
  abbrev pub key_in : Sending → List ℕ
  key_in m = identification_of m ++ header_of m

  -- segment i, whatever its sequence count
  abbrev pub segment_at : Sending → ℕ → Seg
  segment_at m i =
      record { key = key_in m; counter = counter_in m i; flags = flags_in (many_of m) i; body = get_or m.bodies i [] }

  -- its record, once it is taken, and the octets of that
  abbrev pub range_sent : Sending → Range
  range_sent m = record { key = key_in m; first = start_of m; steps = steps_to m }

  abbrev pub record_sent : ℕ → Sending → List ℕ
  record_sent Z m = record_row Z (key_in m) (start_of m) (counter_in m (steps_to m))

  -- H and B
  abbrev pub header_size : Sending → ℕ
  header_size m = length (header_of m)

  abbrev pub body_size : Sending → ℕ
  body_size m = length (whole_body m)

  -- a message that demand 3 speaks of, for cells of Z octets
  pub record IsCut (Z : ℕ) (m : Sending) : Type 0 where
    -- two segments or more, and no more than a message may have (DEMANDS 3.2)
    pub many : 2 ≤ many_of m
    pub most : many_of m ≤ segments_most
    -- each a packet of the format: header values in range, a body of one octet or more, and a counter of 32 bits, which all are if the
    -- first is. The sequence count 0 stands for any
    pub range : (i : ℕ) → i < many_of m → InRange s (values_at m i 0)
    -- each has room in a cell, after its mark; the length is the same with every sequence count
    pub fits : (i : ℕ) → i < many_of m → 2 + length (packet_with m i 0) ≤ Z
