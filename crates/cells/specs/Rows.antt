-- The store's cells, over the cell size Z: rows of Z octets.
-- SPEC S-2, S-3: a free cell is zeros; a held one is the mark 4D 53, a segment's packet that fits, just as it came, and zeros. SPEC S-15: a
-- taken record is the mark 4D 54, a message's key, its first counter and its last, and zeros.
-- Assumes nothing: these are definitions.
use Rattle.std.specs.Prelude.{ℕ, suc, ◌+◌, ◌-◌, ◌*◌, ◌/◌, ◌%◌, List, ◌∷◌, ◌++◌, Bool, length, replicate, leb, eqb}
use Rattle.std.proofs.Math.Option.{Option, none, some}
use Rattle.octets.specs.Octets.{pick, octet_at, part, number, wide, alike, most32}
use Rattle.walk.specs.declared.Settings.{Settings}
use Rattle.packet.specs.Format.{fixed_size, counter_width, header_most}
use Rattle.packet.specs.Numbers.{steps_most}
use Rattle.packet.specs.Reading.{read_packet, segmented}
use Rattle.cells.specs.Segments.{Seg, seg_of, both}

-- a message that was taken: its key, the counter of its first segment, and how many steps on its last one's is
pub record Range : Type 0 where
  pub key : List ℕ
  pub first : ℕ
  pub steps : ℕ

-- what a cell holds; a row that is neither free nor held nor a taken record is broken
pub data Cell : Type 0 where
  free : Cell
  held : Seg → Cell
  taken : Range → Cell
  broken : Cell

-- the segment that a cell holds; whatever else is told of the segments in cells goes through this
abbrev pub segment_in : Cell → Option Seg
segment_in free = none
segment_in (held t) = some t
segment_in (taken g) = none
segment_in broken = none

-- and the taken message that it records
abbrev pub range_in : Cell → Option Range
range_in free = none
range_in (held t) = none
range_in (taken g) = some g
range_in broken = none

abbrev pub by_range : {A : Type 0} → A → (Range → A) → Option Range → A
by_range a f none = a
by_range a f (some g) = f g

-- what is told of a segment, if there is one, and else a
abbrev pub by_segment : {A : Type 0} → A → (Seg → A) → Option Seg → A
by_segment a f none = a
by_segment a f (some t) = f t

-- row number i of the store's octets
abbrev pub row_at : ℕ → List ℕ → ℕ → List ℕ
row_at Z st i = part st (i * Z) Z

abbrev pub zero_row : ℕ → List ℕ
zero_row Z = replicate Z 0

-- SPEC S-3: the two octets of the mark
abbrev pub mark_first : ℕ
mark_first = 0x4d

abbrev pub mark_second : ℕ
mark_second = 0x53

-- how many they are
abbrev pub mark_size : ℕ
mark_size = 2

-- the mark, the packet and zeros
abbrev pub held_row : ℕ → List ℕ → List ℕ
held_row Z p = mark_first ∷ mark_second ∷ p ++ replicate (Z - (mark_size + length p)) 0

-- how long the packet in a row is: its length field, four octets after the mark, says how many there are past the seventh
abbrev pub size_in : List ℕ → ℕ
size_in r = number 2 r (mark_size + 4) + 7

abbrev pub packet_in : List ℕ → List ℕ
packet_in r = part r mark_size (size_in r)

-- a packet that may be held: reading accepts it, it is segmented, and fits the cell after the mark
unfoldable pub may_hold : Settings → ℕ → List ℕ → Bool
may_hold s Z p = both (leb (mark_size + length p) Z) (both (eqb (read_packet s p).refusal.number 0) (segmented p))

-- a row that holds one, just as it arrived
unfoldable pub holds : Settings → ℕ → List ℕ → Bool
holds s Z r = both (alike r (held_row Z (packet_in r))) (may_hold s Z (packet_in r))

-- ---- taken records

-- SPEC S-15: the second octet of their mark
abbrev pub mark_taken : ℕ
mark_taken = 0x54

-- where the header begins in a record, after the mark and the identification
abbrev pub header_at : ℕ
header_at = mark_size + 2

-- the mark, a key, the first counter, the last, and zeros
abbrev pub record_row : ℕ → List ℕ → ℕ → ℕ → List ℕ
record_row Z k first last =
    mark_first ∷ mark_taken ∷ k ++ wide counter_width first ++ wide counter_width last
    ++ replicate (Z - (mark_size + length k + 2 * counter_width)) 0

-- how many octets of its header stand before the counter's place: the fixed part, with the presence octet at its end, a source id and a
-- destination id
unfoldable pub fore_in : List ℕ → ℕ
fore_in r =
    let f = octet_at r (header_at + fixed_size - 1) in
    fixed_size + (f / 128 % 2 + f / 64 % 2)

-- The secondary header with a counter of zeros put back, and octets after it. What comes from the record is as long as the longest header;
-- with the counter that is four octets more, so something always follows a header that is read.
unfoldable pub data_in : List ℕ → List ℕ
data_in r =
    part r header_at (fore_in r) ++ replicate counter_width 0 ++ part r (header_at + fore_in r) (header_most - fore_in r)

-- the record read as a packet: a first segment, sequence count 0, of its identification and that data
unfoldable pub first_in : List ℕ → List ℕ
first_in r = part r mark_size 2 ++ 0x40 ∷ 0x00 ∷ wide 2 (length (data_in r) - 1) ++ data_in r

-- how long the key is: identification, and the header as it is read
unfoldable pub key_long : Settings → List ℕ → ℕ
key_long s r = 2 + (read_packet s (first_in r)).h

abbrev pub key_taken : Settings → List ℕ → List ℕ
key_taken s r = part r mark_size (key_long s r)

-- the two counters after it
abbrev pub first_taken : Settings → List ℕ → ℕ
first_taken s r = number counter_width r (mark_size + key_long s r)

abbrev pub last_taken : Settings → List ℕ → ℕ
last_taken s r = number counter_width r (mark_size + key_long s r + counter_width)

-- how many steps lead from one counter to another, round the end too
unfoldable pub steps_between : ℕ → ℕ → ℕ
steps_between c d = pick (leb c d) (d - c) (suc most32 - c + d)

unfoldable pub range_of : Settings → List ℕ → Range
range_of s r =
    record {
      key = key_taken s r;
      first = first_taken s r;
      steps = steps_between (first_taken s r) (last_taken s r);
    }

-- a row that is a record in order: reading accepts its identification and header, its last counter is one of 1 to 4,095 steps on from
-- its first, and the rest is zeros
unfoldable pub records : Settings → ℕ → List ℕ → Bool
records s Z r =
    both (alike r (record_row Z (key_taken s r) (first_taken s r) (last_taken s r)))
    (both (leb (mark_size + key_long s r + 2 * counter_width) Z)
    (both (eqb (read_packet s (first_in r)).refusal.number 0)
    (both (leb 1 (steps_between (first_taken s r) (last_taken s r))) (leb (steps_between (first_taken s r) (last_taken s r)) steps_most))))

-- ---- what a row is

unfoldable pub cell_of : Settings → ℕ → List ℕ → Cell
cell_of s Z r =
    pick (alike r (zero_row Z)) free
    (pick (holds s Z r) (held (seg_of (packet_in r) (read_packet s (packet_in r))))
    (pick (records s Z r) (taken (range_of s r)) broken))
