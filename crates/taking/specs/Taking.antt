-- Taking a message out of a store.
-- SPEC S-10 to S-12: identification, the header without its counter and the body go out, H, B and c are told; the cell of the message's
-- first becomes a record of it, and its other cells become zero. The tests in their order: 15, 16, 20, 21.
-- Assumes nothing: these are definitions.
use Rattle.std.specs.Prelude.{ℕ, List, [], ◌∷◌, ◌++◌, length, leb}
use Rattle.std.proofs.Math.Option.{Option, none, some}
use Rattle.std.proofs.lemmas.List.Edits.{sets}
use Rattle.octets.specs.Octets.{pick}
use Rattle.walk.specs.declared.Settings.{Settings}
use Rattle.packet.specs.Numbers.{next_counter, steps_most}
use Rattle.cells.specs.Order.{cell_at, count_in, gate, through}
use Rattle.cells.specs.Segments.{Seg, carries}
use Rattle.cells.specs.Rows.{Cell, segment_in, by_segment, zero_row, record_row}
use Rattle.taking.specs.Cleared.{cleared_to}
use Rattle.cells.specs.Messages.{cells_of, Run, body_of, segments, picked, among}

-- what a taking comes to
pub data Took : Type 0 where
  message : Run → Took
  unable : ℕ → Took

-- what is written: a key is identification and header without counter
abbrev pub writing : Run → List ℕ
writing r = r.head.key ++ body_of r

-- a message that was picked, with an output of some length
abbrev pub drawn : Option Run → ℕ → Took
drawn none long = unable 20
drawn (some r) long = pick (leb (length (writing r)) long) (message r) (unable 21)

-- from the first n cells of a store that is in order
unfoldable pub took_in : Settings → ℕ → List ℕ → ℕ → ℕ → Took
took_in s Z st n long = drawn (picked next_counter steps_most (cells_of s Z st n)) long

-- from any octets
unfoldable pub took : Settings → ℕ → List ℕ → ℕ → Took
took s Z st long = through (gate s Z st) (took_in s Z st (count_in Z st) long) unable

-- the output after it
unfoldable pub out_with : List ℕ → Took → List ℕ
out_with out (message r) = sets out 0 (writing r)
out_with out (unable k) = out

-- the counter of the last of some segments; c if there is none
unfoldable pub last_of : ℕ → List Seg → ℕ
last_of c [] = c
last_of c (t ∷ ts) = last_of t.counter ts

-- the record of a message
unfoldable pub record_of : ℕ → Run → List ℕ
record_of Z r = record_row Z r.head.key r.head.counter (last_of r.head.counter r.rest)

-- the row that goes over the cell of one of its segments: the record if it is the first
abbrev pub left_by : ℕ → Run → Seg → List ℕ
left_by Z r t = pick (carries r.head.key r.head.counter t) (record_of Z r) (zero_row Z)

-- the row that goes over a cell, if any does
abbrev pub left_in : ℕ → Run → Cell → Option (List ℕ)
left_in Z r x = by_segment none (λ t. pick (among (segments r) t) (some (left_by Z r t)) none) (segment_in x)

-- the store after it: a record in the cell of the first, zeros in the others of the message, and every other cell as it was
unfoldable pub store_less : Settings → ℕ → List ℕ → ℕ → Took → List ℕ
store_less s Z st n (message r) = cleared_to (λ i. left_in Z r (cell_at s Z st i)) Z n st
store_less s Z st n (unable k) = st
