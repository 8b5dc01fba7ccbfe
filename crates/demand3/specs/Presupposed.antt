-- What demand 3 presupposes of the calls on a store's octets: n cells of Z octets. Its parts, by their numbers in docs/DEMANDS.md:
-- 3.1 `empty_store`, `store_behind`, and one T and profile, `InUse`; 3.2 `cut`, which is `IsCut`; 3.3 `apart`; 3.4 `packets`, which is `MayCome`,
-- and takings and forgettings, `Call`; 3.5 `Room`. For how long it is told: `Untaken`, and from where on `Anew`; of a message that was
-- taken for how long: `Remembered`.
-- Assumes nothing: these are definitions.
use Rattle.std.specs.Prelude.{ℕ, ◌+◌, ◌*◌, ◌≤◌, ◌<◌, ◌≡◌, ◌≢◌, ◌⊎◌, true, false, length, replicate}
use Rattle.std.proofs.Math.Option.{some, none}
use mathlib.Core.List.{List, [], ◌∷◌, ◌++◌, Memᴰ}
use Rattle.walk.specs.declared.Settings.{Settings}
use Rattle.packet.specs.Format.{SettingsInRange}
use Rattle.packet.specs.Reading.{read_packet, segmented}
use Rattle.packet.specs.Key.{key_of}
use Rattle.cells.specs.Segments.{Seg, seg_of}
use Rattle.cells.specs.Rows.{Cell, taken}
use Rattle.cells.specs.Order.{cells_most, cell_at, untaken_to}
use Rattle.cells.specs.Messages.{Run, cells_of, look}
use Rattle.taking.specs.Taking.{message}
use Rattle.demand3.specs.Cells.{has_free}
use Rattle.demand3.specs.Calls.{Call, forgetting, Brings, Handed, Plain, took_by, store_after}
use Rattle.demand3.specs.Sendings.{Sending, ReadsAs, many_of, segment_at, key_in, start_of, range_sent, IsCut}

-- ---- packets

module _ (s : Settings) where
  -- a packet that reads as this segment was handed to an arrival or a joining
  abbrev pub Came : Seg → List Call → Type 0
  Came t cs = (p : List ℕ) × Handed p cs × ReadsAs s p t

  -- all its segments have come
  abbrev pub AllCame : Sending → List Call → Type 0
  AllCame m cs = (i : ℕ) → i < many_of s m → Came (segment_at s m i) cs

  -- what was taken has the message's key and first counter
  abbrev pub Its : Sending → Run → Type 0
  Its m r = (r.head.key ≡ key_in s m) × (r.head.counter ≡ start_of s m)

module _ (s : Settings) (Z : ℕ) where
  -- what a packet may be; of a packet that is a message's own nothing more is asked, so that it may come at any place and again
  pub data MayCome (ms : List Sending) (p : List ℕ) : Type 0 where
    -- a segment of a message, whatever its sequence count
    own : (m : Sending) → Memᴰ m ms → (i : ℕ) → i < many_of s m → ReadsAs s p (segment_at s m i) → MayCome ms p
    unsegmented : segmented p ≡ false → MayCome ms p
    malformed : (read_packet s p).refusal.number ≢ 0 → MayCome ms p
    -- a segment that fits no cell, which arrival refuses by 17; the demand does not name it
    over_long : Z < 2 + length p → MayCome ms p
    -- its key is no message's
    other_keyed : ((m : Sending) → Memᴰ m ms → key_of p (read_packet s p) ≢ key_in s m) → MayCome ms p

  pub record Traffic (ms : List Sending) (cs : List Call) : Type 0 where
    -- two segments or more, at most 4,096, each with room in a cell (DEMANDS 3.2)
    pub cut : (m : Sending) → Memᴰ m ms → IsCut s Z m
    -- two have different keys, or no counter in common (DEMANDS 3.3)
    pub apart : (m w : Sending) → Memᴰ m ms → Memᴰ w ms →
        (m ≡ w) ⊎ (key_in s m ≢ key_in s w) ⊎
        ((i j : ℕ) → i < many_of s m → j < many_of s w → (segment_at s m i).counter ≢ (segment_at s w j).counter)
    -- packets are octets: what their type says
    pub octets : Plain cs
    -- what may come, in whatever order and how often (DEMANDS 3.4)
    pub packets : (p : List ℕ) → Handed p cs → MayCome ms p

  -- ---- takings

  -- the call, at this store, takes the message: a taking, or a joining
  abbrev pub TakesIt : Sending → List ℕ → Call → Type 0
  TakesIt m st c = (r : Run) × (took_by s Z st c ≡ some (message r)) × Its s m r

  -- up to its taking: none of the calls takes it
  abbrev pub Untaken : Sending → List ℕ → List Call → Type 0
  Untaken m st cs = (x y : List Call) (c : Call) → cs ≡ x ++ c ∷ y → TakesIt m (store_after s Z st x) c → ⊥

  -- ---- records

  -- cell i, of n, has the record of the message
  abbrev pub RecordAt : ℕ → Sending → List ℕ → ℕ → Type 0
  RecordAt n m st i = (i < n) × (cell_at s Z st i ≡ taken (range_sent s m))

  -- none of the calls forgets it
  abbrev pub Remembered : ℕ → Sending → List ℕ → List Call → Type 0
  Remembered n m st cs = (x y : List Call) (i : ℕ) → cs ≡ x ++ forgetting i ∷ y → RecordAt n m (store_after s Z st x) i → ⊥

-- ---- the store

-- one T, 1 to 16, and one profile, of the two that there are (DEMANDS 3.1); 1 to 4,096 cells (SPEC N-11)
pub record InUse (s : Settings) (n : ℕ) : Type 0 where
  pub settings : SettingsInRange s
  pub some : 1 ≤ n
  pub most : n ≤ cells_most

-- a store that is empty at first (DEMANDS 3.1)
abbrev pub empty_store : ℕ → ℕ → List ℕ
empty_store Z n = replicate (n * Z) 0

module _ (s : Settings) (Z n : ℕ) where
  -- the store after these calls, which nobody else touches (DEMANDS 3.1)
  abbrev pub store_behind : List Call → List ℕ
  store_behind cs = store_after s Z (empty_store Z n) cs

  -- its cells
  abbrev pub cells_in : List ℕ → List Cell
  cells_in st = cells_of s Z st n

  -- from where on it is told, up to its taking: the store's beginning, and anew once its record is forgotten, so that a message that is
  -- sent once more after that comes out once more
  pub data Anew (m : Sending) : List Call → Type 0 where
    fresh : Anew m []
    forgot : (x : List Call) (i : ℕ) → RecordAt s Z n m (store_behind x) i → Anew m (x ++ forgetting i ∷ [])

  -- a free cell just before each new segment (DEMANDS 3.5), by an arrival or a joining: a packet that reading accepts, segmented,
  -- that fits a cell, and whose key and counter just before no record has in its range and no cell has; where `run` tells the store after
  -- some calls. A record's cell is not free
  abbrev pub RoomIn : (List Call → List ℕ) → List Call → Type 0
  RoomIn run cs = (x y : List Call) (c : Call) (p : List ℕ) → cs ≡ x ++ c ∷ y → Brings p c →
      (read_packet s p).refusal.number ≡ 0 → segmented p ≡ true → 2 + length p ≤ Z →
      untaken_to s Z (run x) n (seg_of p (read_packet s p)).key (seg_of p (read_packet s p)).counter ≡ true →
      look (cells_in (run x)) (seg_of p (read_packet s p)).key (seg_of p (read_packet s p)).counter ≡ none →
      has_free (cells_in (run x)) ≡ true

  abbrev pub Room : List Call → Type 0
  Room cs = RoomIn store_behind cs

  -- all that is presupposed of a run
  pub record Given (ms : List Sending) (cs : List Call) : Type 0 where
    pub traffic : Traffic s Z ms cs
    pub room : Room cs
