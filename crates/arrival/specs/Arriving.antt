-- A packet arrives at a store.
-- SPEC S-7: an unsegmented packet is told as whole; a segment that lies in a taken range, whatever its flags and body, as taken; a new
-- segment goes to the lowest free cell; one that is there already is held, room or not. The tests in their order: 15, 16, reading's, whole,
-- taken, 17, held, 18, 19. Reading's refusal is told whole (R-10).
-- Assumes nothing: these are definitions.
use Rattle.std.specs.Prelude.{ℕ, ◌+◌, ◌*◌, List, length, leb, ltb, eqb}
use Rattle.std.proofs.Math.Option.{Option, none, some}
use Rattle.std.proofs.lemmas.List.Edits.{sets}
use Rattle.octets.specs.Octets.{pick}
use Rattle.walk.specs.declared.Settings.{Settings}
use Rattle.walk.specs.declared.Refusal.{Refusal}
use Rattle.walk.specs.Walk.{refusal}
use Rattle.packet.specs.Reading.{read_packet, segmented}
use Rattle.cells.specs.Segments.{Seg, seg_of, same_rest}
use Rattle.cells.specs.Rows.{held_row}
use Rattle.cells.specs.Order.{is_free, lowest, cell_at, untaken_to, count_in, gate, through}
use Rattle.cells.specs.Messages.{cells_of, look}

-- what an arrival comes to: a new segment with the cell it goes to; one that is held already; one of a message that was taken
pub data Arrived : Type 0 where
  whole : Arrived
  stored : ℕ → Arrived
  again : Arrived
  late : Arrived
  refused : Refusal → Arrived

-- the cell that a new segment goes to, of n: 19 if none is free
unfoldable pub placed : ℕ → ℕ → Arrived
placed n i = pick (ltb i n) (stored i) (refused (refusal 19))

-- beside what is held under its key and counter: the same one again, one that contradicts it, or a new one
abbrev pub beside : Option Seg → Seg → Arrived → Arrived
beside none t new = new
beside (some u) t new = pick (same_rest u t) again (refused (refusal 18))

abbrev pub lowest_free : Settings → ℕ → List ℕ → ℕ → ℕ
lowest_free s Z st n = lowest (λ i. is_free (cell_at s Z st i)) n 0

-- a segment of a packet at the first n cells
unfoldable pub segment_arrived : Settings → ℕ → List ℕ → ℕ → Seg → Arrived
segment_arrived s Z st n t = beside (look (cells_of s Z st n) t.key t.counter) t (placed n (lowest_free s Z st n))

-- a segment whose packet has so many octets: no record covers it, and it fits a cell
unfoldable pub segment_came : Settings → ℕ → List ℕ → ℕ → Seg → ℕ → Arrived
segment_came s Z st n t long =
    pick (untaken_to s Z st n t.key t.counter)
    (pick (leb (2 + long) Z) (segment_arrived s Z st n t) (refused (refusal 17)))
    late

-- a packet at a store that is in order
unfoldable pub arrived_in : Settings → ℕ → List ℕ → ℕ → List ℕ → Arrived
arrived_in s Z st n p =
    pick (eqb (read_packet s p).refusal.number 0)
    (pick (segmented p) (segment_came s Z st n (seg_of p (read_packet s p)) (length p)) whole)
    (refused (read_packet s p).refusal)

-- a packet at any octets
unfoldable pub arrived : Settings → ℕ → List ℕ → List ℕ → Arrived
arrived s Z st p = through (gate s Z st) (arrived_in s Z st (count_in Z st) p) (λ k. refused (refusal k))

-- the store after it: a new segment's cell is written, and nothing else
unfoldable pub store_with : ℕ → List ℕ → List ℕ → Arrived → List ℕ
store_with Z st p whole = st
store_with Z st p (stored i) = sets st (i * Z) (held_row Z p)
store_with Z st p again = st
store_with Z st p late = st
store_with Z st p (refused k) = st
