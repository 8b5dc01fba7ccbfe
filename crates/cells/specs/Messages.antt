-- Messages in the store: what it holds under a key and a counter, and which complete message is picked.
-- SPEC S-8 to S-10: under one key a first, a last some steps on, and a continuation at every counter in between; of several such messages
-- the one whose first has the lowest cell.
-- `next` is the counter that follows one, and `span` the most steps from a first to its last: `next_counter`, and `steps_most`.
-- Assumes nothing: these are definitions.
use Rattle.std.specs.Prelude.{ℕ, zero, suc, Bool, true, false, List, [], ◌∷◌, ◌++◌, eqb}
use Rattle.std.proofs.Math.Option.{Option, none, some, map}
use Rattle.octets.specs.Octets.{pick}
use Rattle.walk.specs.declared.Settings.{Settings}
use Rattle.packet.specs.Format.{flags_first, flags_last}
use Rattle.cells.specs.Segments.{Seg, carries}
use Rattle.cells.specs.Rows.{Cell, segment_in, by_segment}
use Rattle.cells.specs.Order.{cell_at}

-- n of a row of things, from number i on
unfoldable pub listed : {A : Type 0} → (ℕ → A) → ℕ → ℕ → List A
listed f zero i = []
listed f (suc n) i = f i ∷ listed f n (suc i)

-- the first n cells of a store
abbrev pub cells_of : Settings → ℕ → List ℕ → ℕ → List Cell
cells_of s Z st n = listed (cell_at s Z st) n 0

-- ---- what is held

abbrev pub or_else : {A : Type 0} → Option A → Option A → Option A
or_else none b = b
or_else (some a) b = some a

-- the segment in a cell, if it has this key and counter
abbrev pub held_as : List ℕ → ℕ → Cell → Option Seg
held_as k c x = by_segment none (λ t. pick (carries k c t) (some t) none) (segment_in x)

-- what the cells hold under a key and a counter
unfoldable pub look : List Cell → List ℕ → ℕ → Option Seg
look [] k c = none
look (x ∷ xs) k c = or_else (held_as k c x) (look xs k c)

-- ---- messages

-- a segment's place in its message: sequence flags 01 first, 00 continuation, 10 last
pub data Role : Type 0 where
  first : Role
  middle : Role
  last : Role

unfoldable pub role_of : ℕ → Role
role_of f = pick (eqb f flags_first) first (pick (eqb f flags_last) last middle)

-- a message that was found: its first, and the others in order
pub record Run : Type 0 where
  pub head : Seg
  pub rest : List Seg

unfoldable pub bodies : List Seg → List ℕ
bodies [] = []
bodies (t ∷ ts) = t.body ++ bodies ts

abbrev pub segments : Run → List Seg
segments r = r.head ∷ r.rest

-- the message's body
abbrev pub body_of : Run → List ℕ
body_of r = bodies (segments r)

-- a run goes on from a continuation and ends at a last; no run passes over a first, or over a counter that is not there
abbrev pub link_by : {A : Type 0} → Role → A → Option (List A) → Option (List A)
link_by first t r = none
link_by {A} middle t r = map (λ (ts : List A). t ∷ ts) r
link_by last t r = some (t ∷ [])

abbrev pub link : Option Seg → Option (List Seg) → Option (List Seg)
link none r = none
link (some t) r = link_by (role_of t.flags) t r

abbrev pub opens_by : Role → Seg → Option (List Seg) → Option Run
opens_by first t r = map (λ (ts : List Seg). record { head = t; rest = ts }) r
opens_by middle t r = none
opens_by last t r = none

module _ (next : ℕ → ℕ) (span : ℕ) where
  -- the segments of a key from the counter c on, up to a last, n of them at the most
  unfoldable pub rest_from : ℕ → List Cell → List ℕ → ℕ → Option (List Seg)
  rest_from zero cs k c = none
  rest_from (suc n) cs k c = let r = rest_from n cs k (next c) in link (look cs k c) r

  -- the complete message that a segment opens
  unfoldable pub run_from : List Cell → Seg → Option Run
  run_from cs t = let r = rest_from span cs t.key (next t.counter) in opens_by (role_of t.flags) t r

  -- the complete message that the segment in a cell opens
  abbrev pub run_in : List Cell → Cell → Option Run
  run_in cs x = by_segment none (run_from cs) (segment_in x)

  -- among all cells cs, the message that opens in the lowest of some of them
  unfoldable pub pick_in : List Cell → List Cell → Option Run
  pick_in cs [] = none
  pick_in cs (x ∷ xs) = let r = pick_in cs xs in or_else (run_in cs x) r

  -- the complete message with its first in the lowest cell
  abbrev pub picked : List Cell → Option Run
  picked cs = pick_in cs cs

-- ---- a message's cells

abbrev pub or : Bool → Bool → Bool
or a b = pick a true b

-- the segment has the key and counter of one of these
unfoldable pub among : List Seg → Seg → Bool
among [] t = false
among (u ∷ us) t = or (carries u.key u.counter t) (among us t)

abbrev pub among_in : List Seg → Cell → Bool
among_in us x = by_segment false (among us) (segment_in x)
