-- A store in order, and searches in it.
-- SPEC S-6: a whole number of cells, each free, held or a taken record, no key and counter twice, and no held segment in a taken range.
-- Assumes nothing: these are definitions.
use Rattle.std.specs.Prelude.{ℕ, zero, suc, ◌/◌, ◌%◌, List, Bool, true, false, not, length, leb, eqb}
use Rattle.walk.specs.declared.Settings.{Settings}
use Rattle.walk.specs.Walk.{begun}
use Rattle.cells.specs.Segments.{carries, both, reaches}
use Rattle.octets.specs.Octets.{pick, alike}
use Rattle.packet.specs.Numbers.{next_counter}
use Rattle.cells.specs.Rows.{Range, Cell, free, held, taken, broken, segment_in, by_segment, range_in, by_range, row_at, cell_of}

-- SPEC N-10: 1,024 octets a cell, and 2,048 a cell of the wide store
abbrev pub cell_size : ℕ
cell_size = 1024

abbrev pub wide_size : ℕ
wide_size = 2048

-- 1 to 4,096 cells
abbrev pub cells_most : ℕ
cells_most = 4096

-- a length is that of some whole cells, not none and not too many
unfoldable pub length_fits : ℕ → ℕ → Bool
length_fits Z n = both (eqb (n % Z) 0) (both (leb 1 (n / Z)) (leb (n / Z) cells_most))

-- how many there are
abbrev pub count_in : ℕ → List ℕ → ℕ
count_in Z st = length st / Z

abbrev pub is_free : Cell → Bool
is_free free = true
is_free (held t) = false
is_free (taken g) = false
is_free broken = false

abbrev pub is_sound : Cell → Bool
is_sound free = true
is_sound (held t) = true
is_sound (taken g) = true
is_sound broken = false

-- the cell holds a segment of this key and counter
abbrev pub carries_in : List ℕ → ℕ → Cell → Bool
carries_in k c x = by_segment false (carries k c) (segment_in x)

-- SPEC S-16: the range of a taken message has this key and counter; and so has the record in a cell
unfoldable pub covers : List ℕ → ℕ → Range → Bool
covers k c g = both (reaches next_counter g.steps g.first c) (alike k g.key)

abbrev pub covers_in : List ℕ → ℕ → Cell → Bool
covers_in k c x = by_range false (covers k c) (range_in x)

-- the lowest of n numbers, from i on, of which a test holds: n + i if there is none
unfoldable pub lowest : (ℕ → Bool) → ℕ → ℕ → ℕ
lowest f zero i = i
lowest f (suc n) i = pick (f i) i (lowest f n (suc i))

abbrev pub cell_at : Settings → ℕ → List ℕ → ℕ → Cell
cell_at s Z st i = cell_of s Z (row_at Z st i)

-- all of the first n hold
unfoldable pub all_to : (ℕ → Bool) → ℕ → Bool
all_to f zero = true
all_to f (suc n) = both (all_to f n) (f n)

-- none of the first n cells has this key and counter
unfoldable pub new_to : Settings → ℕ → List ℕ → ℕ → List ℕ → ℕ → Bool
new_to s Z st n k c = all_to (λ j. not (carries_in k c (cell_at s Z st j))) n

-- no cell below i has the key and counter of this one
unfoldable pub new_at : Settings → ℕ → List ℕ → ℕ → Cell → Bool
new_at s Z st i x = by_segment true (λ t. new_to s Z st i t.key t.counter) (segment_in x)

-- no two of the first n cells have equal key and counter
unfoldable pub distinct : Settings → ℕ → List ℕ → ℕ → Bool
distinct s Z st n = all_to (λ i. new_at s Z st i (cell_at s Z st i)) n

unfoldable pub sound : Settings → ℕ → List ℕ → ℕ → Bool
sound s Z st n = all_to (λ i. is_sound (cell_at s Z st i)) n

-- no record in the first n cells covers this key and counter
unfoldable pub untaken_to : Settings → ℕ → List ℕ → ℕ → List ℕ → ℕ → Bool
untaken_to s Z st n k c = all_to (λ j. not (covers_in k c (cell_at s Z st j))) n

-- nor those of the segment in a cell
abbrev pub untaken_in : Settings → ℕ → List ℕ → ℕ → Cell → Bool
untaken_in s Z st n x = by_segment true (λ t. untaken_to s Z st n t.key t.counter) (segment_in x)

-- no segment in the first n cells lies in the range of a record there
unfoldable pub untaken : Settings → ℕ → List ℕ → ℕ → Bool
untaken s Z st n = all_to (λ i. untaken_in s Z st n (cell_at s Z st i)) n

unfoldable pub in_order : Settings → ℕ → List ℕ → Bool
in_order s Z st =
    both (length_fits Z (length st))
    (both (sound s Z st (count_in Z st)) (both (distinct s Z st (count_in Z st)) (untaken s Z st (count_in Z st))))

-- what every call on a store tests before anything else: 15, then 16; 0 if both pass
unfoldable pub gate : Settings → ℕ → List ℕ → ℕ
gate s Z st = pick (eqb (begun s).refused 0) (pick (in_order s Z st) 0 16) 15

-- what a call comes to by that number: a if it is 0, and else the refusal by it
abbrev pub through : {A : Type 0} → ℕ → A → (ℕ → A) → A
through g a refuse = pick (eqb g 0) a (refuse g)

-- the lowest of the first n cells with this key and counter; n if there is none
unfoldable pub found_in : Settings → ℕ → List ℕ → ℕ → List ℕ → ℕ → ℕ
found_in s Z st n k c = lowest (λ j. carries_in k c (cell_at s Z st j)) n 0
