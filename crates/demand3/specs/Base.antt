-- Demand 3 in SPEC's words: counters are numbers up to 4,294,967,295, after which comes 0, and a message has at most 4,096 segments.
-- Assumes nothing: these are definitions.
use Rattle.std.specs.Prelude.{ℕ, ◌≤◌, ◌≡◌, ◌≢◌, ◌⊎◌}
use mathlib.Core.List.{List, ◌∷◌, ◌++◌, Memᴰ}
use Rattle.octets.specs.Octets.{most32}
use Rattle.packet.specs.Numbers.{next_counter, steps_most}
use Rattle.cells.specs.Segments.{Seg}
use Rattle.cells.specs.Rows.{Cell}
use Rattle.cells.specs.Messages.{Run}
use Rattle.taking.specs.Taking.{message}
use Rattle.demand3.specs.Complete.{Complete}
use Rattle.demand3.specs.Traffic.{Sent, steps_in, segments_of, Event, arrives, takes, empty, taken_from, stepped, after, OneOf, Room}
use Rattle.demand3.specs.Promise.{Original, Its, AllCame, Untaken, Remembered, Anew, Done, Delivery, Promise, Out}

-- SPEC S-8: under the key k a first at c, a last n steps on, 1 to 4,095 of them, a continuation at every counter in between
abbrev pub CompleteFrom : List Cell → List ℕ → ℕ → ℕ → Type 0
CompleteFrom cs k c n = Complete next_counter steps_most cs k c n

abbrev pub Done01 : Sent → List Cell → Type 0
Done01 m cs = Done next_counter steps_most m cs

pub record Traffic01 (ms : List Sent) (es : List Event) : Type 0 where
  -- a counter to start from, any one, and no more segments than a message may have (DEMANDS 3.2)
  pub start : (m : Sent) → Memᴰ m ms → m.start ≤ most32
  pub short : (m : Sent) → Memᴰ m ms → steps_in m ≤ steps_most
  -- two have different keys, or no counter in common (DEMANDS 3.3)
  pub apart : (m w : Sent) → Memᴰ m ms → Memᴰ w ms →
      (m ≡ w) ⊎ (m.key ≢ w.key) ⊎
      ((t u : Seg) → Memᴰ t (segments_of next_counter m) → Memᴰ u (segments_of next_counter w) → t.counter ≢ u.counter)
  -- what may come, in whatever order and how often (DEMANDS 3.4)
  pub source : (t : Seg) → Memᴰ (arrives t) es → OneOf next_counter ms t ⊎ ((m : Sent) → Memᴰ m ms → t.key ≢ m.key)

pub record Given01 (cells : ℕ) (ms : List Sent) (es : List Event) : Type 0 where
  pub traffic : Traffic01 ms es
  -- a free cell just before each new segment (DEMANDS 3.5)
  pub room : Room next_counter steps_most (empty cells) es

-- from an empty store on, up to a taking of the message, and anew once its record is forgotten
abbrev pub Demand3·01 : Type 0
Demand3·01 = (cells : ℕ) (ms : List Sent) (before since : List Event) → Given01 cells ms (before ++ since) →
    (m : Sent) → Memᴰ m ms → Anew next_counter steps_most cells m before →
    Untaken next_counter steps_most m (after next_counter steps_most (empty cells) before) since →
    Promise next_counter steps_most (Done01 m) cells m since (after next_counter steps_most (empty cells) (before ++ since))

-- without the room, the same but that all its segments may have arrived and a message still not be complete
abbrev pub Soundness01 : Type 0
Soundness01 = (cells : ℕ) (ms : List Sent) (before since : List Event) → Traffic01 ms (before ++ since) →
    (m : Sent) → Memᴰ m ms → Anew next_counter steps_most cells m before →
    (Done01 m (after next_counter steps_most (empty cells) (before ++ since)) → AllCame next_counter m since) ×
    Delivery next_counter steps_most (Done01 m) cells m (after next_counter steps_most (empty cells) (before ++ since))

-- without the room, whatever is taken under a message's key is one of the messages of that key, whole
abbrev pub Genuine01 : Type 0
Genuine01 = (cells : ℕ) (ms : List Sent) (es : List Event) → Traffic01 ms es → (long : ℕ) (r : Run) →
    taken_from next_counter steps_most (after next_counter steps_most (empty cells) es) long ≡ message r → (m : Sent) → Memᴰ m ms →
    r.head.key ≡ m.key →
    (w : Sent) × Memᴰ w ms × (w.key ≡ m.key) × Original next_counter w r

-- without the room, a message that was taken is out until its record is forgotten, and no taking hands it out again
abbrev pub Recorded01 : Type 0
Recorded01 = (cells : ℕ) (ms : List Sent) (before since : List Event) (long : ℕ) (r : Run) → Traffic01 ms (before ++ takes long ∷ since) →
    (m : Sent) → Memᴰ m ms → taken_from next_counter steps_most (after next_counter steps_most (empty cells) before) long ≡ message r → Its m r →
    Remembered next_counter steps_most m (stepped next_counter steps_most (after next_counter steps_most (empty cells) before) (takes long)) since →
    Out next_counter steps_most m (after next_counter steps_most (empty cells) (before ++ takes long ∷ since)) ×
    Untaken next_counter steps_most m (stepped next_counter steps_most (after next_counter steps_most (empty cells) before) (takes long)) since
