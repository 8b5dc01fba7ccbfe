-- What demand 3 speaks of: messages cut into segments, what happens to a store's cells, and what is presupposed.
-- `next` is the counter that follows one, and `span` the most steps from a first to its last.
-- Assumes nothing: these are definitions.
use Rattle.std.specs.Prelude.{ℕ, suc, ◌≤◌, ◌≡◌, ◌≢◌, ◌⊎◌, true, false, length, replicate}
use Rattle.std.proofs.Math.Option.{Option, none, some}
use mathlib.Core.List.{List, [], ◌∷◌, ◌++◌, Memᴰ}
use Rattle.octets.specs.Octets.{pick}
use Rattle.octets.specs.Laying.{together}
use Rattle.cells.specs.Segments.{Seg}
use Rattle.cells.specs.Rows.{Cell, free}
use Rattle.cells.specs.Messages.{Run, segments, look, picked}
use Rattle.taking.specs.Taking.{Took, message, unable, drawn}
use Rattle.demand3.specs.Cells.{put, has_free, clear, forgotten, recorded}

-- ---- messages

-- a message as its cutting gives it: key (identification and header), first counter, and the bodies of two or more segments
pub record Sent : Type 0 where
  pub key : List ℕ
  pub start : ℕ
  pub one : List ℕ
  pub two : List ℕ
  pub more : List (List ℕ)

-- the message's body
abbrev pub body_in : Sent → List ℕ
body_in m = together (m.one ∷ m.two ∷ m.more)

-- the steps from its first to its last
abbrev pub steps_in : Sent → ℕ
steps_in m = suc (length m.more)

-- the sequence flags of a segment after the first: 10 the last, 00 if others follow
abbrev pub flags_before : List (List ℕ) → ℕ
flags_before [] = 2
flags_before (p ∷ ps) = 0

module _ (next : ℕ → ℕ) where
  -- the segments after the first, from the counter c on
  unfoldable pub later : List ℕ → ℕ → List (List ℕ) → List Seg
  later k c [] = []
  later k c (p ∷ ps) = record { key = k; counter = c; flags = flags_before ps; body = p } ∷ later k (next c) ps

  -- the message as a run of segments, the first with flags 01
  unfoldable pub run_of : Sent → Run
  run_of m =
      record {
        head = record { key = m.key; counter = m.start; flags = 1; body = m.one };
        rest = later m.key (next m.start) (m.two ∷ m.more);
      }

  abbrev pub segments_of : Sent → List Seg
  segments_of m = segments (run_of m)

-- ---- what happens

-- a segment arrives; a call that is nothing to the store (a packet that is whole, refused or too long); a taking with so many
-- octets of output; the record in a cell is forgotten
pub data Event : Type 0 where
  arrives : Seg → Event
  passes : Event
  takes : ℕ → Event
  forgets : ℕ → Event

-- the cells after an arrival that no record has in its range, told what they hold under its key and counter: a new segment goes to the
-- lowest free cell
abbrev pub stowed : Option Seg → List Cell → Seg → List Cell
stowed none cs t = put cs t
stowed (some u) cs t = cs

-- the cells after a taking: of the message its record is left, and no other cell is touched
abbrev pub lessened : Took → List Cell → List Cell
lessened (message r) cs = clear r cs
lessened (unable k) cs = cs

-- an empty store of n cells
abbrev pub empty : ℕ → List Cell
empty n = replicate n free

module _ (next : ℕ → ℕ) (span : ℕ) where
  -- what a taking with so many octets of output comes to
  unfoldable pub taken_from : List Cell → ℕ → Took
  taken_from cs long = drawn (picked next span cs) long

  unfoldable pub stepped : List Cell → Event → List Cell
  stepped cs (arrives t) = pick (recorded next cs t.key t.counter) cs (stowed (look cs t.key t.counter) cs t)
  stepped cs passes = cs
  stepped cs (takes long) = lessened (taken_from cs long) cs
  stepped cs (forgets i) = forgotten i cs

  -- the cells after a list of events
  unfoldable pub after : List Cell → List Event → List Cell
  after cs [] = cs
  after cs (e ∷ es) = after (stepped cs e) es

-- ---- what is presupposed

module _ (next : ℕ → ℕ) where
  -- a segment of one of the messages
  abbrev pub OneOf : List Sent → Seg → Type 0
  OneOf ms t = (m : Sent) × Memᴰ m ms × Memᴰ t (segments_of next m)

  -- a segment that no message has: another key, or a counter that none has under its key
  abbrev pub Stray : List Sent → Seg → Type 0
  Stray ms t = (m : Sent) → Memᴰ m ms → (u : Seg) → Memᴰ u (segments_of next m) → t.key ≡ u.key → t.counter ≢ u.counter

module _ (next : ℕ → ℕ) (span : ℕ) where
  pub record Traffic (ms : List Sent) (es : List Event) : Type 0 where
    -- no message has more steps than the span, nor one counter twice (DEMANDS 3.2)
    pub short : (m : Sent) → Memᴰ m ms → steps_in m ≤ span
    pub steady : (m : Sent) → Memᴰ m ms → (t u : Seg) → Memᴰ t (segments_of next m) → Memᴰ u (segments_of next m) →
        t.counter ≡ u.counter → t ≡ u
    -- two have different keys, or no counter in common (DEMANDS 3.3)
    pub apart : (m w : Sent) → Memᴰ m ms → Memᴰ w ms →
        (m ≡ w) ⊎ (m.key ≢ w.key) ⊎
        ((t u : Seg) → Memᴰ t (segments_of next m) → Memᴰ u (segments_of next w) → t.counter ≢ u.counter)
    -- what may come, in whatever order and how often (DEMANDS 3.4)
    pub source : (t : Seg) → Memᴰ (arrives t) es → OneOf next ms t ⊎ Stray next ms t

  -- a free cell just before each new segment (DEMANDS 3.5): one that no record has in its range, and that is not held. A record's cell is
  -- not free
  abbrev pub Room : List Cell → List Event → Type 0
  Room cs es = (p q : List Event) (t : Seg) → es ≡ p ++ arrives t ∷ q → recorded next (after next span cs p) t.key t.counter ≡ false →
      look (after next span cs p) t.key t.counter ≡ none → has_free (after next span cs p) ≡ true
