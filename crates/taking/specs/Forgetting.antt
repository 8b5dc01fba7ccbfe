-- Forgetting a taken record.
-- SPEC S-17: the cell that is named becomes zero, and nothing else changes; after 15 and 16, 31 if the number is not that of a cell with a
-- taken record. After that a repeat of the message is a new segment again.
-- Assumes nothing: these are definitions.
use Rattle.std.specs.Prelude.{ℕ, ◌*◌, Bool, true, false, List, ltb, eqb}
use Rattle.std.proofs.lemmas.List.Edits.{sets}
use Rattle.octets.specs.Octets.{pick}
use Rattle.walk.specs.declared.Settings.{Settings}
use Rattle.cells.specs.Segments.{both}
use Rattle.cells.specs.Rows.{Cell, range_in, by_range, zero_row}
use Rattle.cells.specs.Order.{cell_at, lowest, count_in, gate, through}

-- a cell has a taken record
abbrev pub is_record : Cell → Bool
is_record x = by_range false (λ g. true) (range_in x)

-- the lowest of the first n cells that has one; n if none has
unfoldable pub lowest_record : Settings → ℕ → List ℕ → ℕ → ℕ
lowest_record s Z st n = lowest (λ i. is_record (cell_at s Z st i)) n 0

-- the record in cell i of the first n: 0, or 31
unfoldable pub forgot_in : Settings → ℕ → List ℕ → ℕ → ℕ → ℕ
forgot_in s Z st n i = pick (both (ltb i n) (is_record (cell_at s Z st i))) 0 31

-- at any octets
unfoldable pub forgot : Settings → ℕ → List ℕ → ℕ → ℕ
forgot s Z st i = through (gate s Z st) (forgot_in s Z st (count_in Z st) i) (λ k. k)

-- the store after it, by that number
abbrev pub store_unless : ℕ → ℕ → List ℕ → ℕ → List ℕ
store_unless k Z st i = pick (eqb k 0) (sets st (i * Z) (zero_row Z)) st

abbrev pub store_forgotten : Settings → ℕ → List ℕ → ℕ → List ℕ
store_forgotten s Z st i = store_unless (forgot s Z st i) Z st i
