-- The code's tests on a row, told by its octets; and its table of where the bodies begin.
-- Assumes nothing: these are definitions.
use Rattle.std.specs.Prelude.{ℕ, zero, suc, ◌+◌, ◌-◌, ◌/◌, ◌%◌, ◌<◌, ◌≡◌, List, Bool, true, false, length, get_or, drop, set, eqb}
use Rattle.octets.specs.Octets.{Octets, octet_at, part, number, alike}
use Rattle.walk.specs.declared.Settings.{Settings}
use Rattle.packet.specs.Format.{primary_size, fixed_size, counter_width}
use Rattle.packet.specs.Reading.{read_packet, segmented}
use Rattle.cells.specs.Segments.{Seg, both, reaches}
use Rattle.cells.specs.declared.Judged.{Judged}
use Rattle.cells.specs.declared.Judged.TheVariants.{Free, Held, Taken, Broken}
use Rattle.cells.specs.Rows.{Cell, free, held, taken, broken, segment_in, by_segment, mark_first, row_at, packet_in}
use Rattle.cells.specs.Order.{cell_at}

-- a row begins with a mark, told its second octet, and from n on is as the zero cell
unfoldable pub marked_test : ℕ → List ℕ → ℕ → List ℕ → Bool
marked_test m r n z =
    both (eqb (octet_at r 0) mark_first) (both (eqb (octet_at r 1) m) (both (eqb (length r) (length z)) (alike (drop n r) (drop n z))))

-- places in a packet: the secondary header, its presence octet, and what comes after that
abbrev pub secondary_at : ℕ
secondary_at = primary_size

abbrev pub presence_at : ℕ
presence_at = 26

abbrev pub optional_at : ℕ
optional_at = primary_size + fixed_size

-- where a packet's segment counter stands, by its presence octet, and the counter
unfoldable pub place_in : List ℕ → ℕ
place_in p = optional_at + (octet_at p presence_at / 128 % 2 + octet_at p presence_at / 64 % 2)

unfoldable pub counter_in : List ℕ → ℕ
counter_in p = number counter_width p (place_in p)

-- two packets agree around their counters, told where their bodies begin
unfoldable pub spans_alike : List ℕ → ℕ → List ℕ → ℕ → Bool
spans_alike p at_p q at-q =
    both (both (eqb (place_in p) (place_in q)) (eqb at_p at-q))
    (both (alike (part p 0 2) (part q 0 2))
    (both (alike (part p secondary_at (place_in p - secondary_at)) (part q secondary_at (place_in q - secondary_at)))
    (alike (part p (place_in p + counter_width) (at_p - (place_in p + counter_width)))
    (part q (place_in q + counter_width) (at-q - (place_in q + counter_width))))))

-- where the body begins in the packet of a row, by reading it
abbrev pub body_in : Settings → List ℕ → ℕ
body_in s r = (read_packet s (packet_in r)).body.at

-- what is told of a cell, with the place of its body, and of a record how long its header is
abbrev pub judged_of : ℕ → Cell → Judged
judged_of at free = Free
judged_of at (held t) = Held at (record { 0 = t.counter })
judged_of at (taken g) = Taken (length g.key - 2)
judged_of at broken = Broken

-- what is told of a row with a record's mark: a record, with the length of its header, or broken
abbrev pub recorded_of : Bool → ℕ → Judged
recorded_of true h = Taken h
recorded_of false h = Broken

-- what is told of a cell tells whether it holds a segment, whether it is a record, and whether it is either or free
abbrev pub told_held : Judged → Bool
told_held Free = false
told_held (Held at c) = true
told_held (Taken h) = false
told_held Broken = false

abbrev pub told_taken : Judged → Bool
told_taken Free = false
told_taken (Held at c) = false
told_taken (Taken h) = true
told_taken Broken = false

abbrev pub told_sound : Judged → Bool
told_sound Free = true
told_sound (Held at c) = true
told_sound (Taken h) = true
told_sound Broken = false

-- where the body of its segment begins, that segment's counter, and how long the header of a record is; 0 if it is no such cell
abbrev pub told_body : Judged → ℕ
told_body Free = 0
told_body (Held at c) = at
told_body (Taken h) = 0
told_body Broken = 0

abbrev pub told_counter : Judged → ℕ
told_counter Free = 0
told_counter (Held at c) = c.0
told_counter (Taken h) = 0
told_counter Broken = 0

abbrev pub told_header : Judged → ℕ
told_header Free = 0
told_header (Held at c) = 0
told_header (Taken h) = h
told_header Broken = 0

module _ (next : ℕ → ℕ) where
  -- the segment has this key, and its counter is c or one of m steps after it; and a cell that holds such a one
  abbrev pub within : List ℕ → ℕ → ℕ → Seg → Bool
  within k c m t = both (reaches next m c t.counter) (alike k t.key)

  abbrev pub within_in : List ℕ → ℕ → ℕ → Cell → Bool
  within_in k c m x = by_segment false (within k c m) (segment_in x)

-- a segment whose key is looked for: what reading answered of it, and where its body begins
pub record Asked (s : Settings) (q : List ℕ) (body_at : ℕ) : Type 0 where
  pub octets : Octets q
  pub accepted : (read_packet s q).refusal.number ≡ 0
  pub segment : segmented q ≡ true
  pub body : body_at ≡ (read_packet s q).body.at

-- where the body of the segment in cell i begins; 0 if the cell holds none
unfoldable pub body_start : Settings → ℕ → List ℕ → ℕ → ℕ
body_start s Z st i = told_body (judged_of (body_in s (row_at Z st i)) (cell_at s Z st i))

-- those of the first n cells put into a table, each at its cell's number
unfoldable pub bodies_to : Settings → ℕ → List ℕ → ℕ → List ℕ → List ℕ
bodies_to s Z st zero table = table
bodies_to s Z st (suc n) table = set (bodies_to s Z st n table) n (body_start s Z st n)

-- a table tells them of the first n cells
abbrev pub Bodies : Settings → ℕ → List ℕ → List ℕ → ℕ → Type 0
Bodies s Z st table n = (i : ℕ) → i < n → get_or table i 0 ≡ body_start s Z st i
