-- A store's cells after an arrival, after a taking and after a forgetting: what the calls' octets come to, cell by cell.
-- `next` is the counter that follows one.
-- Assumes nothing: these are definitions.
use Rattle.std.specs.Prelude.{ℕ, zero, suc, Bool, false, List, [], ◌∷◌, map, length}
use Rattle.octets.specs.Octets.{pick, alike}
use Rattle.cells.specs.Segments.{Seg, both, reaches}
use Rattle.cells.specs.Rows.{Range, Cell, free, held, taken, range_in, by_range}
use Rattle.cells.specs.Messages.{Run, segments, among_in, or}
use Rattle.cells.specs.Order.{is_free, carries_in}
use Rattle.taking.specs.Forgetting.{is_record}

-- the lowest free cell takes the segment; a full store stays
unfoldable pub put : List Cell → Seg → List Cell
put [] t = []
put (x ∷ xs) t = pick (is_free x) (held t ∷ xs) (x ∷ put xs t)

unfoldable pub has_free : List Cell → Bool
has_free [] = false
has_free (x ∷ xs) = or (is_free x) (has_free xs)

-- ---- a taking

-- the record of a message
abbrev pub range_by : Run → Range
range_by r = record { key = r.head.key; first = r.head.counter; steps = length r.rest }

-- what is left in a cell of a message that is taken: its record if the cell held its first, else nothing
abbrev pub left : Run → Cell → Cell
left r x = pick (carries_in r.head.key r.head.counter x) (taken (range_by r)) free

-- its cells are given up, and no others
abbrev pub freed : Run → Cell → Cell
freed r x = pick (among_in (segments r) x) (left r x) x

abbrev pub clear : Run → List Cell → List Cell
clear r xs = map (freed r) xs

-- ---- records

-- the record in cell i is forgotten; a number of no record changes nothing
unfoldable pub forgotten : ℕ → List Cell → List Cell
forgotten i [] = []
forgotten zero (x ∷ xs) = pick (is_record x) free x ∷ xs
forgotten (suc i) (x ∷ xs) = x ∷ forgotten i xs

module _ (next : ℕ → ℕ) where
  -- a record has this key, and the counter in its range
  unfoldable pub spans : List ℕ → ℕ → Range → Bool
  spans k c g = both (reaches next g.steps g.first c) (alike k g.key)

  abbrev pub spans_in : List ℕ → ℕ → Cell → Bool
  spans_in k c x = by_range false (spans k c) (range_in x)

  -- so has the record in one of the cells
  unfoldable pub recorded : List Cell → List ℕ → ℕ → Bool
  recorded [] k c = false
  recorded (x ∷ xs) k c = or (spans_in k c x) (recorded xs k c)
