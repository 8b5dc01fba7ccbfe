-- Demand 3's promise over cells.
-- Assumes nothing: these are definitions.
use Rattle.std.specs.Prelude.{ℕ, ◌+◌, ◌≤◌, ◌<◌, ◌≡◌, ◌↔◌, true, length, get_or}
use Rattle.std.proofs.Math.Option.{none, some}
use mathlib.Core.List.{List, [], ◌∷◌, ◌++◌, map, Memᴰ}
use Rattle.cells.specs.Segments.{Seg}
use Rattle.cells.specs.Rows.{Cell, free, taken}
use Rattle.cells.specs.Messages.{Run, body_of, segments, look, picked}
use Rattle.taking.specs.Taking.{message, unable, writing}
use Rattle.demand3.specs.Cells.{clear, range_by, recorded}
use Rattle.demand3.specs.Complete.{Complete}
use Rattle.demand3.specs.Traffic.{Sent, body_in, steps_in, run_of, segments_of, Event, arrives, takes, forgets, empty}
use Rattle.demand3.specs.Traffic.{taken_from, stepped, after, Traffic, Room}

-- what was taken is the message: identification, header and body as they were sent, its first counter, and just its cells
pub record Original (next : ℕ → ℕ) (m : Sent) (r : Run) : Type 0 where
  pub key : r.head.key ≡ m.key
  pub body : body_of r ≡ body_in m
  pub counter : r.head.counter ≡ m.start
  pub own : segments r ≡ segments_of next m

-- a taking of it: by its key and its first counter
abbrev pub Its : Sent → Run → Type 0
Its m r = (r.head.key ≡ m.key) × (r.head.counter ≡ m.start)

-- all its segments are among the arrivals
abbrev pub AllCame : (ℕ → ℕ) → Sent → List Event → Type 0
AllCame next m es = (t : Seg) → Memᴰ t (segments_of next m) → Memᴰ (arrives t) es

module _ (next : ℕ → ℕ) (span : ℕ) where
  abbrev pub Done : Sent → List Cell → Type 0
  Done m cs = Complete next span cs m.key m.start (steps_in m)

  -- none of the events takes it
  abbrev pub Untaken : Sent → List Cell → List Event → Type 0
  Untaken m cs es = (p q : List Event) (long : ℕ) (r : Run) → es ≡ p ++ takes long ∷ q →
      taken_from next span (after next span cs p) long ≡ message r → Its m r → ⊥

  -- the cell of this number has its record
  abbrev pub RecordAt : Sent → List Cell → ℕ → Type 0
  RecordAt m cs i = get_or cs i free ≡ taken (range_by (run_of next m))

  -- none of the events forgets it
  abbrev pub Remembered : Sent → List Cell → List Event → Type 0
  Remembered m cs es = (p q : List Event) (i : ℕ) → es ≡ p ++ forgets i ∷ q → RecordAt m (after next span cs p) i → ⊥

  -- where a message is told anew: at the store's beginning, and once its record is forgotten
  pub data Anew (cells : ℕ) (m : Sent) : List Event → Type 0 where
    fresh : Anew cells m []
    forgot : (p : List Event) (i : ℕ) → RecordAt m (after next span (empty cells) p) i → Anew cells m (p ++ forgets i ∷ [])

  -- takes one after the other, each with output at least as long as what it picks
  abbrev pub LongEnough : List Cell → List ℕ → Type 0
  LongEnough cs ns = (x y : List ℕ) (long : ℕ) (r : Run) → ns ≡ x ++ long ∷ y →
      picked next span (after next span cs (map takes x)) ≡ some r → length (writing r) ≤ long

  -- one of these takes hands out a run of which this holds
  abbrev pub HandsOut : (Run → Type 0) → List Cell → List ℕ → Type 0
  HandsOut F cs ns = (x : List ℕ) × (long : ℕ) × (y : List ℕ) × (ns ≡ x ++ long ∷ y) ×
      ((r : Run) × (taken_from next span (after next span cs (map takes x)) long ≡ message r) × F r)

  -- whatever a taking hands out under the message's key and one of its counters is the message
  abbrev pub Gives : Sent → List Cell → Type 0
  Gives m cs = (long : ℕ) (r : Run) (t : Seg) → taken_from next span cs long ≡ message r → Memᴰ t (segments_of next m) →
      r.head.key ≡ t.key → r.head.counter ≡ t.counter → Original next m r

  -- a taking that picks the message, and its output
  pub record Output (m : Sent) (cs : List Cell) : Type 0 where
    -- as long as identification, header and body: it writes them, and leaves the message's record in its cells
    pub enough : (r : Run) → picked next span cs ≡ some r → Its m r → (long : ℕ) → length m.key + length (body_in m) ≤ long →
        (taken_from next span cs long ≡ message r) × (writing r ≡ m.key ++ body_in m) × (r.head.counter ≡ m.start) ×
        (stepped next span cs (takes long) ≡ clear (run_of next m) cs)
    -- shorter: refusal 21, and the cells stay
    pub short : (r : Run) → picked next span cs ≡ some r → Its m r → (long : ℕ) → long < length m.key + length (body_in m) →
        (taken_from next span cs long ≡ unable 21) × (stepped next span cs (takes long) ≡ cs)

  -- within as many takes as there are cells, one after the other, one hands out the message
  abbrev pub Handed : ℕ → Sent → List Cell → Type 0
  Handed cells m cs = (ns : List ℕ) → cells ≤ length ns → LongEnough cs ns → HandsOut (Original next m) cs ns

  -- what is presupposed of the events from an empty store on
  pub record Given (cells : ℕ) (ms : List Sent) (es : List Event) : Type 0 where
    pub traffic : Traffic next span ms es
    pub room : Room next span (empty cells) es

  -- its taking gives what was sent, and nothing that comes later changes that (DEMANDS 3.7, 3.8);
  -- D says of cells that the message is complete
  pub record Delivery (D : List Cell → Type 0) (cells : ℕ) (m : Sent) (cs : List Cell) : Type 0 where
    pub gives : Gives m cs
    pub output : Output m cs
    pub handed : D cs → Handed cells m cs
    -- whatever arrives, and whether or not there is room
    pub lasts : D cs → (more : List Event) → Untaken m cs more →
        D (after next span cs more) × Gives m (after next span cs more) × Output m (after next span cs more) ×
        Handed cells m (after next span cs more)

  -- what is promised of a message until it is taken, told of the events since the store's beginning or since its record was forgotten, and
  -- of the cells now
  pub record Promise (D : List Cell → Type 0) (cells : ℕ) (m : Sent) (since : List Event) (cs : List Cell) : Type 0 where
    -- complete if all its segments have come, and only then (DEMANDS 3.6)
    pub complete : D cs ↔ AllCame next m since
    pub delivery : Delivery D cells m cs

  -- what is promised of a message that was taken, until its record is forgotten
  pub record Out (m : Sent) (cs : List Cell) : Type 0 where
    -- a cell has its record
    pub noted : (i : ℕ) × RecordAt m cs i
    -- each of its segments lies in the range of a record, so that a repeat of it changes nothing
    pub late : (t : Seg) → Memᴰ t (segments_of next m) → recorded next cs t.key t.counter ≡ true
    pub same : (t : Seg) → Memᴰ t (segments_of next m) → stepped next span cs (arrives t) ≡ cs
    -- and none is held
    pub gone : (t : Seg) → Memᴰ t (segments_of next m) → look cs t.key t.counter ≡ none

  -- demand 3: from an empty store on, up to a taking of the message, and anew once its record is forgotten
  abbrev pub Demand3 : Type 0
  Demand3 = (cells : ℕ) (ms : List Sent) (before since : List Event) → Given cells ms (before ++ since) → (m : Sent) → Memᴰ m ms →
      Anew cells m before → Untaken m (after next span (empty cells) before) since →
      Promise (Done m) cells m since (after next span (empty cells) (before ++ since))

  -- without the room, also if segments were refused since no cell was free: a message is complete only when all its segments have
  -- arrived, and its taking gives the original
  abbrev pub Soundness : Type 0
  Soundness = (cells : ℕ) (ms : List Sent) (before since : List Event) → Traffic next span ms (before ++ since) →
      (m : Sent) → Memᴰ m ms → Anew cells m before →
      (Done m (after next span (empty cells) (before ++ since)) → AllCame next m since) ×
      Delivery (Done m) cells m (after next span (empty cells) (before ++ since))

  -- a message that was taken is out until its record is forgotten, room or no room: and no taking hands it out again
  abbrev pub Recorded : Type 0
  Recorded = (cells : ℕ) (ms : List Sent) (before since : List Event) (long : ℕ) (r : Run) →
      Traffic next span ms (before ++ takes long ∷ since) → (m : Sent) → Memᴰ m ms →
      taken_from next span (after next span (empty cells) before) long ≡ message r → Its m r →
      Remembered m (stepped next span (after next span (empty cells) before) (takes long)) since →
      Out m (after next span (empty cells) (before ++ takes long ∷ since)) ×
      Untaken m (stepped next span (after next span (empty cells) before) (takes long)) since
