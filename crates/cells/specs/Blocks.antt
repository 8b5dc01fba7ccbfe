-- Blocks of counters: which chain a record belongs to, so that those that may cover a counter are found on few chains.
-- No public promise speaks of them: they make the order's last test short.
-- Assumes nothing: these are definitions.
use Rattle.std.specs.Prelude.{ℕ, zero, suc, ◌-◌, ◌*◌, ◌/◌, List, Bool, not, eqb}
use Rattle.octets.specs.Octets.{pick, octet_at, most32}
use Rattle.walk.specs.declared.Settings.{Settings}
use Rattle.cells.specs.declared.untaken.Block.{Block}
use Rattle.cells.specs.Segments.{both}
use Rattle.cells.specs.Rows.{Cell, range_in, by_range, row_at, mark_taken}
use Rattle.cells.specs.Order.{cell_at, all_to, covers_in}
use Rattle.cells.specs.Chains.{mix_in, mixed, mix_start, chain_in, chains_all}

-- the levels: at level j a block has 2^j counters, and at the highest as many as the longest message has segments
abbrev pub levels_most : ℕ
levels_most = 12

unfoldable pub twos : ℕ → ℕ
twos zero = 1
twos (suc j) = 2 * twos j

-- a number halved j times: the block of a counter at level j
unfoldable pub halved : ℕ → ℕ → ℕ
halved zero c = c
halved (suc j) c = halved j (c / 2)

-- the block before it, of those up to top: before the first comes the last
abbrev pub prior : ℕ → ℕ → ℕ
prior top x = pick (eqb x 0) top (x - 1)

-- From level j and block x so many levels up as it takes to halve the steps to none, at most f: then the block has room for the whole range.
unfoldable pub climbed : ℕ → ℕ → ℕ → ℕ → Block
climbed zero j left x = record { level = j; number = x }
climbed (suc f) j left x =
    let r = climbed f (suc j) (left / 2) (x / 2) in
    pick (eqb left 0) (record { level = j; number = x }) r

-- the block in which a range begins, at the level where it has room
abbrev pub block_of : ℕ → ℕ → Block
block_of first steps = climbed levels_most 0 steps first

-- the chain by a mixed key and a block
unfoldable pub block_chain : ℕ → ℕ → ℕ → ℕ
block_chain m j x = chain_in (mix_in (mix_in m j) x)

abbrev pub chain_by : List ℕ → Block → ℕ
chain_by k b = block_chain (mixed mix_start k) b.level b.number

-- the chain of a cell: none for one that is no record
abbrev pub range_chain : Cell → ℕ
range_chain x = by_range chains_all (λ g. chain_by g.key (block_of g.first g.steps)) (range_in x)

unfoldable pub taken_at : Settings → ℕ → List ℕ → ℕ → ℕ
taken_at s Z st i = range_chain (cell_at s Z st i)

-- none of the first n cells has a record's mark
unfoldable pub no_marks : ℕ → List ℕ → ℕ → Bool
no_marks Z st n = all_to (λ i. not (eqb (octet_at (row_at Z st i) 1) mark_taken)) n

-- none of the first n cells that are on chain b covers a key and a counter
abbrev pub hits : Settings → ℕ → List ℕ → List ℕ → ℕ → ℕ → ℕ → Bool
hits s Z st k c b i = both (eqb (taken_at s Z st i) b) (covers_in k c (cell_at s Z st i))

unfoldable pub clear_on : Settings → ℕ → List ℕ → ℕ → List ℕ → ℕ → ℕ → Bool
clear_on s Z st n k c b = all_to (λ i. not (hits s Z st k c b i)) n

-- those on the two chains of a counter at level j, by its mixed key
unfoldable pub clear_at : Settings → ℕ → List ℕ → ℕ → List ℕ → ℕ → ℕ → ℕ → ℕ → ℕ → Bool
clear_at s Z st n k c m j x top = both (clear_on s Z st n k c (block_chain m j x)) (clear_on s Z st n k c (block_chain m j (prior top x)))

abbrev pub clear_by : Settings → ℕ → List ℕ → ℕ → List ℕ → ℕ → ℕ → ℕ → Bool
clear_by s Z st n k c m j = clear_at s Z st n k c m j (halved j c) (halved j most32)
