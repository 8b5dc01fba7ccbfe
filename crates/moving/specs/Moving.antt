-- A store moved to cells of another size, from Y octets a cell to Z, cell by cell.
-- SPEC S-19: each cell stands in the other store under its number, with the same octets as far as they go and zeros after them. A store that is
-- not in order and a target of another length are refused by 16, and a packet that does not fit the other cells by 32.
-- Assumes nothing: these are definitions.
use Rattle.std.specs.Prelude.{ℕ, zero, suc, ◌+◌, ◌*◌, List, [], ◌++◌, Bool, false, not, length, take, leb, eqb}
use Rattle.octets.specs.Octets.{pick}
use Rattle.walk.specs.declared.Settings.{Settings}
use Rattle.cells.specs.Rows.{by_segment, segment_in, row_at, zero_row, mark_size, packet_in, cell_of}
use Rattle.cells.specs.Order.{count_in, lowest, gate, through}

-- a row as one of Z octets: zeros come after it, or what is past the Z-th octet goes
unfoldable pub row_as : ℕ → List ℕ → List ℕ
row_as Z r = take Z (r ++ zero_row Z)

-- the first n rows of Y octets as rows of Z octets, one after the other
unfoldable pub rows_as : ℕ → ℕ → List ℕ → ℕ → List ℕ
rows_as Y Z st zero = []
rows_as Y Z st (suc n) = rows_as Y Z st n ++ row_as Z (row_at Y st n)

-- the packet in a row does not fit Z octets after the mark
abbrev pub long_in : ℕ → List ℕ → Bool
long_in Z r = not (leb (mark_size + length (packet_in r)) Z)

-- a row of Y octets holds such a one
unfoldable pub too_long : Settings → ℕ → ℕ → List ℕ → Bool
too_long s Y Z r = by_segment false (λ t. long_in Z r) (segment_in (cell_of s Y r))

-- the lowest of the first n cells that does; n if there is none
unfoldable pub first_too_long : Settings → ℕ → ℕ → List ℕ → ℕ → ℕ
first_too_long s Y Z st n = lowest (λ i. too_long s Y Z (row_at Y st i)) n 0

-- what the move of a store in order into a target of m octets is refused by
unfoldable pub moved_in : Settings → ℕ → ℕ → List ℕ → ℕ → ℕ
moved_in s Y Z st m =
    pick (eqb m (count_in Y st * Z)) (pick (leb (count_in Y st) (first_too_long s Y Z st (count_in Y st))) 0 32) 16

-- and that of any store: 15, 16, then 32; 0 if it is moved
unfoldable pub moved_by : Settings → ℕ → ℕ → List ℕ → ℕ → ℕ
moved_by s Y Z st m = through (gate s Y st) (moved_in s Y Z st m) (λ k. k)

-- the cell that is named beside 32
unfoldable pub cell_by : Settings → ℕ → ℕ → List ℕ → ℕ → ℕ
cell_by s Y Z st m = pick (eqb (moved_by s Y Z st m) 32) (first_too_long s Y Z st (count_in Y st)) 0

-- the target after it: the store's rows, or as it was
unfoldable pub target_by : Settings → ℕ → ℕ → List ℕ → List ℕ → List ℕ
target_by s Y Z st target = pick (eqb (moved_by s Y Z st (length target)) 0) (rows_as Y Z st (count_in Y st)) target
