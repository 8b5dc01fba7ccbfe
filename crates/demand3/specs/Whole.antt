-- Demand 3 over the store's octets: what is promised of a message, and the whole. Its parts, by their numbers in docs/DEMANDS.md: 3.6
-- `complete` of `Promise`, by `IsComplete`; 3.7 `enough` of `Takes`, what is written then `Delivers`, and that takings come to it
-- `HandsOut`; 3.8 `lasts` and `stays`; 3.9, of a message that was taken, `Out`.
-- Assumes nothing: these are definitions.
use Rattle.std.specs.Prelude.{ℕ, ◌+◌, ◌≤◌, ◌<◌, ◌≡◌, ◌↔◌, true, length, drop}
use Rattle.std.proofs.Math.Option
use Rattle.std.proofs.Math.Option.{some}
use mathlib.Core.List.{List, [], ◌∷◌, ◌++◌, map, Memᴰ}
use Rattle.octets.specs.Octets.{Octets}
use Rattle.walk.specs.declared.Settings.{Settings}
use Rattle.packet.specs.Numbers.{next_counter, steps_most}
use Rattle.packet.specs.Reading.{read_packet, segmented}
use Rattle.cells.specs.Segments.{seg_of}
use Rattle.cells.specs.Rows.{held, row_at, zero_row}
use Rattle.cells.specs.Order.{cell_at}
use Rattle.cells.specs.Messages.{Run, picked}
use Rattle.arrival.specs.Arriving.{late, arrived}
use Rattle.taking.specs.Taking.{message, unable, writing}
use Rattle.walk.specs.Walk.{refusal}
use Rattle.taking.specs.Told.{taken_of}
use Rattle.demand3.specs.Base.{CompleteFrom}
use Rattle.demand3.specs.Calls.{Call, taking, Brings, Plain, packets_in, out_of, arrived_store, draws}
use Rattle.demand3.specs.Calls.{store_at, took_by, store_by, out_by, store_after, outs_after}
use Rattle.demand3.specs.Sendings.{Sending, whole_body, many_of, segment_at, identification_of, header_of, key_in, header_size, body_size}
use Rattle.demand3.specs.Sendings.{start_of, counter_in, steps_to, record_sent}
use Rattle.demand3.specs.Presupposed.{InUse, empty_store, store_behind, cells_in, AllCame, MayCome, Traffic, Given, Its, TakesIt, Untaken}
use Rattle.demand3.specs.Presupposed.{RecordAt, Remembered, Anew, Room}

module _ (s : Settings) (Z n : ℕ) where
  -- complete (SPEC S-8), here for the message's own key, first counter and number of steps to its last
  abbrev pub IsComplete : Sending → List ℕ → Type 0
  IsComplete m st = CompleteFrom (cells_in s Z n st) (key_in s m) (start_of s m) (steps_to s m)

  -- cell j holds a segment of the message
  abbrev pub Holds : Sending → List ℕ → ℕ → Type 0
  Holds m st j = (i : ℕ) × (i < many_of s m) × (cell_at s Z st j ≡ held (segment_at s m i))

  -- the call, a taking or a joining at this store, hands out the message
  pub record Delivers (m : Sending) (st : List ℕ) (c : Call) : Type 0 where
    -- it tells H, B and c
    pub told : Option.map taken_of (took_by s Z st c) ≡
        some (record { refusal = refusal 0; header = header_size s m; body = body_size s m; counter = record { 0 = start_of s m } })
    -- the output is the identification, header and body that were sent, and after them as it was
    pub written : out_by s Z st c ≡
        identification_of s m ++ header_of s m ++ whole_body m ++ drop (2 + header_size s m + body_size s m) (out_of c)
    -- each segment was in a cell
    pub there : (i : ℕ) → i < many_of s m → (j : ℕ) × (j < n) × (cell_at s Z (store_at s Z st c) j ≡ held (segment_at s m i))
    -- the cell of its first has its record
    pub recorded : (j : ℕ) → j < n → cell_at s Z (store_at s Z st c) j ≡ held (segment_at s m 0) → row_at Z (store_by s Z st c) j ≡ record_sent s Z m
    -- its other cells are zero
    pub zeroed : (j : ℕ) → j < n → (i : ℕ) → 0 < i → i < many_of s m → cell_at s Z (store_at s Z st c) j ≡ held (segment_at s m i) →
        row_at Z (store_by s Z st c) j ≡ zero_row Z
    -- and no others are touched
    pub others : (j : ℕ) → j < n → (Holds m (store_at s Z st c) j → ⊥) → row_at Z (store_by s Z st c) j ≡ row_at Z (store_at s Z st c) j

  -- the taking of a call picks the message
  abbrev pub Picks : Sending → List ℕ → Call → Type 0
  Picks m st c = (draws s Z st c ≡ true) × ((r : Run) × (picked next_counter steps_most (cells_in s Z n (store_at s Z st c)) ≡ some r) × Its s m r)

  -- a call at this store, a taking or a joining
  pub record Takes (m : Sending) (st : List ℕ) (c : Call) : Type 0 where
    -- whatever it hands out under the message's key and one of its counters is the message
    pub gives : (r : Run) → took_by s Z st c ≡ some (message r) → r.head.key ≡ key_in s m →
        (i : ℕ) → i < many_of s m → r.head.counter ≡ (segment_at s m i).counter → Delivers m st c
    -- an output that is long enough: if it picks the message, 2 + H + B octets are enough
    pub enough : Picks m st c → 2 + header_size s m + body_size s m ≤ length (out_of c) → Delivers m st c
    -- and fewer are refused by 21, with no octet changed after the arrival
    pub short : Picks m st c → length (out_of c) < 2 + header_size s m + body_size s m →
        (took_by s Z st c ≡ some (unable 21)) × (store_by s Z st c ≡ store_at s Z st c) × (out_by s Z st c ≡ out_of c)

  -- outputs for takings one after the other, each at least as long as what it picks
  abbrev pub LongEnough : List ℕ → List (List ℕ) → Type 0
  LongEnough st outs = (x y : List (List ℕ)) (out : List ℕ) (r : Run) → outs ≡ x ++ out ∷ y →
      picked next_counter steps_most (cells_in s Z n (store_after s Z st (map taking x))) ≡ some r → length (writing r) ≤ length out

  -- of as many such takings as there are cells, with no other call between, one hands out the message
  abbrev pub HandsOut : Sending → List ℕ → Type 0
  HandsOut m st = (outs : List (List ℕ)) → n ≤ length outs → LongEnough st outs →
      (x : List (List ℕ)) × (out : List ℕ) × (y : List (List ℕ)) × (outs ≡ x ++ out ∷ y) ×
      Delivers m (store_after s Z st (map taking x)) (taking out)

  -- its taking gives what was sent, and nothing that comes later changes that (DEMANDS 3.7, 3.8)
  pub record Delivery (ms : List Sending) (m : Sending) (st : List ℕ) : Type 0 where
    -- its taking: by any call, the packet of which, if it has one, may come
    pub takes : (c : Call) → ((p : List ℕ) → Brings p c → Octets p × MayCome s Z ms p) → Takes m st c
    -- and once it is complete, takings come to it
    pub handed : IsComplete m st → HandsOut m st
    -- nothing later changes that (DEMANDS 3.8): whatever is called, with room or without, until it is taken
    pub lasts : IsComplete m st → (more : List Call) → Plain more → Untaken s Z m st more →
        IsComplete m (store_after s Z st more) × ((c : Call) → Plain (c ∷ []) → Takes m (store_after s Z st more) c) ×
        HandsOut m (store_after s Z st more)

  -- what is promised of a message until it is taken, told of the calls since the store's beginning or since its record was forgotten, and of
  -- the store now
  pub record Promise (ms : List Sending) (m : Sending) (before since : List Call) : Type 0 where
    -- complete if all its segments have come, and only then (DEMANDS 3.6)
    pub complete : IsComplete m (store_behind s Z n (before ++ since)) ↔ AllCame s m since
    -- its taking gives what was sent (DEMANDS 3.7), by the store as it is now
    pub delivery : Delivery ms m (store_behind s Z n (before ++ since))
    -- each call has an output of its own, and what it wrote there stays, whatever is called later (DEMANDS 3.8); so it is of any
    -- program
    pub stays : (more : List Call) → outs_after s Z (empty_store Z n) (before ++ since ++ more) ≡
        outs_after s Z (empty_store Z n) (before ++ since) ++ outs_after s Z (store_behind s Z n (before ++ since)) more

  -- what is promised of a message that was taken, until its record is forgotten (DEMANDS 3.9)
  pub record Out (m : Sending) (st : List ℕ) : Type 0 where
    -- a cell has its record
    pub noted : (i : ℕ) × RecordAt s Z n m st i
    -- a segment with its key and one of its counters, whatever the flags and the body, is answered "taken", and changes nothing
    pub repeats : (p : List ℕ) → (read_packet s p).refusal.number ≡ 0 → segmented p ≡ true → (seg_of p (read_packet s p)).key ≡ key_in s m →
        (i : ℕ) → i < many_of s m → (seg_of p (read_packet s p)).counter ≡ counter_in s m i →
        (arrived s Z st p ≡ late) × (arrived_store s Z st p ≡ st)
    -- none of its segments is held
    pub gone : (i : ℕ) → i < many_of s m → (j : ℕ) → j < n → cell_at s Z st j ≡ held (segment_at s m i) → ⊥

-- demand 3 for cells of Z octets
abbrev pub WholeDemand3 : ℕ → Type 0
WholeDemand3 Z = (s : Settings) (n : ℕ) → InUse s n → (ms : List Sending) (before since : List Call) → Given s Z n ms (before ++ since) →
    (m : Sending) → Memᴰ m ms → Anew s Z n m before → Untaken s Z m (store_behind s Z n before) since →
    Promise s Z n ms m before since

-- room enough (DEMANDS 3.5): as many cells as packets are handed over always suffice
abbrev pub WholeRoom : ℕ → Type 0
WholeRoom Z = (s : Settings) (n : ℕ) → InUse s n → (cs : List Call) → Plain cs → packets_in cs ≤ n → Room s Z n cs

-- without the room, also if segments were refused since no cell was free: a message is complete only when all its segments have
-- arrived, and its taking gives the original
abbrev pub WholeSoundness : ℕ → Type 0
WholeSoundness Z = (s : Settings) (n : ℕ) → InUse s n → (ms : List Sending) (before since : List Call) → Traffic s Z ms (before ++ since) →
    (m : Sending) → Memᴰ m ms → Anew s Z n m before →
    (IsComplete s Z n m (store_behind s Z n (before ++ since)) → AllCame s m since) ×
    Delivery s Z n ms m (store_behind s Z n (before ++ since))

-- and whatever a call of the run, a taking or a joining, hands out under a message's key is one of the messages of that key, whole
abbrev pub WholeGenuine : ℕ → Type 0
WholeGenuine Z = (s : Settings) (n : ℕ) → InUse s n → (ms : List Sending) (x y : List Call) (c : Call) → Traffic s Z ms (x ++ c ∷ y) →
    (r : Run) → took_by s Z (store_behind s Z n x) c ≡ some (message r) → (m : Sending) → Memᴰ m ms → r.head.key ≡ key_in s m →
    (w : Sending) × Memᴰ w ms × (key_in s w ≡ key_in s m) × Delivers s Z n w (store_behind s Z n x) c

-- without the room too: a message that a call has taken is out until its record is forgotten, and no call takes it again
abbrev pub WholeRecorded : ℕ → Type 0
WholeRecorded Z = (s : Settings) (n : ℕ) → InUse s n → (ms : List Sending) (x y : List Call) (c : Call) → Traffic s Z ms (x ++ c ∷ y) →
    (m : Sending) → Memᴰ m ms → TakesIt s Z m (store_behind s Z n x) c → Remembered s Z n m (store_by s Z (store_behind s Z n x) c) y →
    Out s Z n m (store_behind s Z n (x ++ c ∷ y)) × Untaken s Z m (store_by s Z (store_behind s Z n x) c) y
