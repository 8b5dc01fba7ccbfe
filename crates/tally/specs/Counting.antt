-- What is left in a store: its held cells, the keys among them, and its taken records.
-- SPEC S-3 says which cells are held, S-4 what a key is, S-15 which have a record.
-- Assumes nothing: these are definitions.
use Rattle.std.specs.Prelude.{ℕ, zero, suc, ◌+◌, List, Bool, true, false, not, length}
use Rattle.octets.specs.Octets.{pick, alike}
use Rattle.walk.specs.declared.Settings.{Settings}
use Rattle.cells.specs.Rows.{Cell, segment_in, by_segment}
use Rattle.cells.specs.Order.{length_fits, count_in, cell_at, all_to}
use Rattle.taking.specs.Forgetting.{is_record}
use Rattle.tally.specs.declared.Tallied.{Tallied}

-- of how many of the first n numbers a test holds
unfoldable pub count_to : (ℕ → Bool) → ℕ → ℕ
count_to f zero = 0
count_to f (suc n) = count_to f n + pick (f n) 1 0

abbrev pub is_held : Cell → Bool
is_held x = by_segment false (λ t. true) (segment_in x)

-- the cell holds a segment of this key
abbrev pub keyed : List ℕ → Cell → Bool
keyed k x = by_segment false (λ t. alike k t.key) (segment_in x)

-- none of the first n cells does
unfoldable pub new_key_to : Settings → ℕ → List ℕ → ℕ → List ℕ → Bool
new_key_to s Z st n k = all_to (λ j. not (keyed k (cell_at s Z st j))) n

-- the cell is held, and no cell below i has its key
abbrev pub new_key_in : Settings → ℕ → List ℕ → ℕ → Cell → Bool
new_key_in s Z st i x = by_segment false (λ t. new_key_to s Z st i t.key) (segment_in x)

-- the held cells among the first n, and their different keys: of each key the lowest cell counts
unfoldable pub segments_in : Settings → ℕ → List ℕ → ℕ → ℕ
segments_in s Z st n = count_to (λ i. is_held (cell_at s Z st i)) n

unfoldable pub keys_in : Settings → ℕ → List ℕ → ℕ → ℕ
keys_in s Z st n = count_to (λ i. new_key_in s Z st i (cell_at s Z st i)) n

-- the records among the first n cells
unfoldable pub records_to : Settings → ℕ → List ℕ → ℕ → ℕ
records_to s Z st n = count_to (λ i. is_record (cell_at s Z st i)) n

-- the cells of a store: none if its length does not fit
abbrev pub cells_in : ℕ → List ℕ → ℕ
cells_in Z st = pick (length_fits Z (length st)) (count_in Z st) 0

abbrev pub left_in : Settings → ℕ → List ℕ → Tallied
left_in s Z st = record { segments = segments_in s Z st (cells_in Z st); keys = keys_in s Z st (cells_in Z st) }

abbrev pub records_in : Settings → ℕ → List ℕ → ℕ
records_in s Z st = records_to s Z st (cells_in Z st)
