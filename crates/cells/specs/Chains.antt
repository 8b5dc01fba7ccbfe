-- The chains of a store's cells: which chain a key and a counter belong to, and the two tables of numbers that lead along each chain.
-- No public promise speaks of them: they make searches short.
-- Assumes nothing: these are definitions.
use Rattle.std.specs.Prelude.{ℕ, zero, suc, ◌+◌, ◌-◌, ◌*◌, ◌/◌, ◌%◌, ◌≤◌, ◌<◌, ◌≡◌, Option, None, Some, List, ◌++◌, length, get_or, set, fold}
use Rattle.std.specs.Borrow.{Bor}
use Rattle.std.specs.Option.{IfSome}
use Rattle.octets.specs.Octets.{part}
use Rattle.walk.specs.declared.Settings.{Settings}
use Rattle.cells.specs.declared.Chains.{Chains}
use Rattle.cells.specs.Rows.{Cell, segment_in, by_segment}
use Rattle.cells.specs.Order.{cells_most, cell_at}
use Rattle.packet.specs.Format.{counter_width}
use Rattle.cells.specs.Inner.{secondary_at, place_in}

-- how many chains there are
abbrev pub chains_all : ℕ
chains_all = 4096

-- ---- the chain of a key and a counter

-- mixed numbers have 32 bits, two halves of 16 each
abbrev pub mix_all : ℕ
mix_all = 4294967296

abbrev pub mix_half : ℕ
mix_half = 65536

abbrev pub mix_factor : ℕ
mix_factor = 16777619

-- a number mixed into a mixed number
abbrev pub mix_in : ℕ → ℕ → ℕ
mix_in m x = (m * mix_factor + x) % mix_all

-- octets mixed in, one after the other
abbrev pub mixed : ℕ → List ℕ → ℕ
mixed m l = fold mix_in m l

-- what the mixing begins with
abbrev pub mix_start : ℕ
mix_start = 2166136261

-- a chain by the high and the low half of a mixed number
abbrev pub chain_in : ℕ → ℕ
chain_in m = (m / mix_half + m) % chains_all

-- the whole key and the counter choose the chain
unfoldable pub bucket_of : List ℕ → ℕ → ℕ
bucket_of k c = chain_in (mix_in (mixed mix_start k) c)

-- the key of a segment by its octets, told where its body begins
unfoldable pub key_in : List ℕ → ℕ → List ℕ
key_in p body_at =
    part p 0 2
    ++ (part p secondary_at (place_in p - secondary_at) ++ part p (place_in p + counter_width) (body_at - (place_in p + counter_width)))

-- ---- the chains

-- the chain of a cell: none for one that holds no segment
abbrev pub bucket_in : Cell → ℕ
bucket_in x = by_segment chains_all (λ t. bucket_of t.key t.counter) (segment_in x)

unfoldable pub bucket_at : Settings → ℕ → List ℕ → ℕ → ℕ
bucket_at s Z st i = bucket_in (cell_at s Z st i)

-- a number in a table is 0, for none, or a cell and one more
abbrev pub cell_below : ℕ → Option ℕ
cell_below zero = None
cell_below (suc k) = Some k

-- cell i becomes the head of chain b, and the head that was its link
abbrev pub pushed : ℕ → ℕ → Chains → Chains
pushed i b t = record { heads = set t.heads b (i + 1); links = set t.links i (get_or t.heads b 0) }

-- The first i cells, cell k on chain b k, are linked. A head is the highest cell of its chain, a link the next lower one.
pub record Chained (b : ℕ → ℕ) (t : Chains) (i : ℕ) : Type 0 where
  -- there is room for all of them
  pub most : i ≤ cells_most
  pub heads_long : length t.heads ≡ chains_all
  pub links_long : length t.links ≡ cells_most
  -- a head is one of these cells, of the head's chain
  pub low : (x : ℕ) → x < chains_all → get_or t.heads x 0 ≤ i
  pub home : (x k : ℕ) → x < chains_all → get_or t.heads x 0 ≡ suc k → b k ≡ x
  -- no cell of a chain is above its head
  pub all : (k : ℕ) → k < i → b k < chains_all → k < get_or t.heads (b k) 0
  -- a link leads down, along the chain
  pub down : (j : ℕ) → j < i → b j < chains_all → get_or t.links j 0 ≤ j
  pub back : (j k : ℕ) → j < i → b j < chains_all → get_or t.links j 0 ≡ suc k → b k ≡ b j
  -- and leaves out no cell of it
  pub between : (j k : ℕ) → j < i → k < j → b j < chains_all → b k ≡ b j → k < get_or t.links j 0

-- chains that a search is lent, or none; and what is known of them
abbrev pub LentChains : Type 0
LentChains = Option (Bor Chains)

abbrev pub ChainedIf : (ℕ → ℕ) → LentChains → ℕ → Type 0
ChainedIf b chains n = IfSome chains (λ t. Chained b t.now n)
