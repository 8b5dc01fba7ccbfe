-- Arrival, taking, forgetting, joining, the order of a store and a whole recording are refused by a number of their own lists.
-- Assumes nothing.
use Prim.Native.Nat.{ℕ, ◌+◌}
use mathlib.Core.Path.{◌≡◌, refl}
use mathlib.Core.Bool.{true}
use mathlib.Core.Option.{Option, none, some}
use mathlib.Core.List.{List, ◌∷◌}
use lib.ListN.{length}
use lib.Dec.{leb, ltb, eqb}
use Rattle.walk.specs.declared.Settings.{Settings}
use Rattle.packet.specs.Numbers.{next_counter, steps_most}
use Rattle.walk.specs.Walk.{begun, refusal}
use Rattle.packet.specs.Reading.{read_packet, segmented}
use Rattle.cells.specs.Segments.{Seg, seg_of, same_rest, both}
use Rattle.cells.specs.Order.{cell_at, untaken_to, in_order, count_in, gate}
use Rattle.cells.specs.Messages.{Run, cells_of, look, picked as picked_from}
use Rattle.arrival.specs.Arriving.{Arrived, whole, stored, again, late, refused, placed, beside, lowest_free, segment_arrived, segment_came}
use Rattle.arrival.specs.Arriving.{arrived_in, arrived, store_with}
use Rattle.taking.specs.Taking.{Took, message, unable, writing, drawn, took_in, took}
use Rattle.taking.specs.Forgetting.{is_record, forgot_in, forgot}
use Rattle.arrival.specs.Told.{said, arrival_of}
use Rattle.taking.specs.Told.{taken_of}
use Rattle.join.specs.Joining.{took_as, joined_by, joining}
use Rattle.join.specs.Told.{joined_of}
use Rattle.recording.specs.Answer.{Recorded}
use Rattle.recording.specs.Ending.{refused_by as by_recording, recorded_of}
use Rattle.numbers.specs.Lists.{Numbered, of_reading, of_arrival, of_taking, of_forgetting, of_joining, of_order, of_recording}
use Rattle.format.proofs.Refusals.{picked}
use Rattle.numbers.proofs.Among.{has, among, among_all}
use Rattle.numbers.proofs.Reading.{reading}

-- settings and order: 15 or 16
gated : (l : List ℕ) → has (0 ∷ l) 15 ≡ true → has (0 ∷ l) 16 ≡ true → (s : Settings) (Z : ℕ) (st : List ℕ) → Numbered l (gate s Z st)
unfolding gate
gated l a b s Z st =
    picked (Numbered l) (eqb (begun s).refused 0) _ 15
    (picked (Numbered l) (in_order s Z st) 0 16 (among (0 ∷ l) 0 refl) (among (0 ∷ l) 16 b))
    (among (0 ∷ l) 15 a)

-- ---- arrival

abbrev Came : Arrived → Type 0
Came a = Numbered of_arrival (said (arrival_of a)).refusal.number

came : (n : ℕ) → has (0 ∷ of_arrival) n ≡ true → Numbered of_arrival n
came n e = among (0 ∷ of_arrival) n e

segment_came_lem : (s : Settings) (Z : ℕ) (st : List ℕ) (n : ℕ) (t : Seg) → Came (segment_arrived s Z st n t)
unfolding segment_arrived placed
segment_came_lem s Z st n t = go (look (cells_of s Z st n) t.key t.counter)
  where
    go : (o : Option Seg) → Came (beside o t (placed n (lowest_free s Z st n)))
    go none = picked Came (ltb (lowest_free s Z st n) n) (stored (lowest_free s Z st n)) (refused (refusal 19)) (came 0 refl) (came 19 refl)
    go (some u) = picked Came (same_rest u t) again (refused (refusal 18)) (came 0 refl) (came 18 refl)

pub arrival : (s : Settings) (Z : ℕ) (st p : List ℕ) → Numbered of_arrival (said (arrival_of (arrived s Z st p))).refusal.number
unfolding arrived arrived_in segment_came
arrival s Z st p =
    picked Came (eqb (gate s Z st) 0) _ (refused (refusal (gate s Z st)))
    (picked Came (eqb (read_packet s p).refusal.number 0) _ (refused (read_packet s p).refusal)
    (picked Came (segmented p) _ whole
    (picked Came (untaken_to s Z st (count_in Z st) (seg_of p (read_packet s p)).key (seg_of p (read_packet s p)).counter) _ late
    (picked Came (leb (2 + length p) Z) _ (refused (refusal 17)) (segment_came_lem s Z st (count_in Z st) (seg_of p (read_packet s p))) (came 17 refl))
    (came 0 refl))
    (came 0 refl))
    (among_all (0 ∷ of_reading) (0 ∷ of_arrival) refl _ (reading s p)))
    (gated of_arrival refl refl s Z st)

-- ---- taking

abbrev Taken : Took → Type 0
Taken t = Numbered of_taking (taken_of t).refusal.number

some_taken : (n : ℕ) → has (0 ∷ of_taking) n ≡ true → Numbered of_taking n
some_taken n e = among (0 ∷ of_taking) n e

pub taking : (s : Settings) (Z : ℕ) (st : List ℕ) (long : ℕ) → Numbered of_taking (taken_of (took s Z st long)).refusal.number
unfolding took took_in
taking s Z st long =
    picked Taken (eqb (gate s Z st) 0) _ (unable (gate s Z st)) (go (picked_from next_counter steps_most (cells_of s Z st (count_in Z st))))
    (gated of_taking refl refl s Z st)
  where
    go : (o : Option Run) → Taken (drawn o long)
    go none = some_taken 20 refl
    go (some r) =
        picked Taken (leb (length (writing r)) long) (message r) (unable 21) (some_taken 0 refl) (some_taken 21 refl)

-- ---- forgetting

pub forgetting : (s : Settings) (Z : ℕ) (st : List ℕ) (i : ℕ) → Numbered of_forgetting (forgot s Z st i)
unfolding forgot forgot_in
forgetting s Z st i =
    picked (Numbered of_forgetting) (eqb (gate s Z st) 0) _ (gate s Z st)
    (picked (Numbered of_forgetting) (both (ltb i (count_in Z st)) (is_record (cell_at s Z st i))) 0 31 (among (0 ∷ of_forgetting) 0 refl)
    (among (0 ∷ of_forgetting) 31 refl))
    (gated of_forgetting refl refl s Z st)

-- ---- joining

pub join : (s : Settings) (Z : ℕ) (st p : List ℕ) (long : ℕ) → Numbered of_joining (joined_of (joining s Z st p long)).refusal.number
unfolding joining
join s Z st p long = go (arrived s Z st p) (arrival s Z st p)
  where
    took_as_lem : (t : Took) → Taken t → Numbered of_joining (joined_of (took_as t)).refusal.number
    took_as_lem (message r) h = among (0 ∷ of_joining) 0 refl
    took_as_lem (unable k) h = among_all (0 ∷ of_taking) (0 ∷ of_joining) refl k h

    go : (a : Arrived) → Came a → Numbered of_joining (joined_of (joined_by s Z st p long a)).refusal.number
    go whole h = among (0 ∷ of_joining) 0 refl
    go (stored i) h = took_as_lem (took s Z (store_with Z st p (stored i)) long) (taking s Z (store_with Z st p (stored i)) long)
    go again h = took_as_lem (took s Z (store_with Z st p again) long) (taking s Z (store_with Z st p again) long)
    go late h = took_as_lem (took s Z (store_with Z st p late) long) (taking s Z (store_with Z st p late) long)
    go (refused k) h = among_all (0 ∷ of_arrival) (0 ∷ of_joining) refl k.number h

-- ---- the order of a store, and a whole recording

pub order : (s : Settings) (Z : ℕ) (st : List ℕ) → Numbered of_order (gate s Z st)
unfolding gate
order s Z st =
    picked (Numbered of_order) (eqb (begun s).refused 0) _ 15
    (picked (Numbered of_order) (in_order s Z st) 0 16 (among (0 ∷ of_order) 0 refl) (among (0 ∷ of_order) 16 refl)) (among (0 ∷ of_order) 15 refl)

all_by : (s : Settings) (n long : ℕ) → Numbered of_recording (by_recording s n long)
unfolding by_recording
all_by s n long =
    picked (Numbered of_recording) (eqb (begun s).refused 0) _ 15
    (picked (Numbered of_recording) (leb n long) 0 21 (among (0 ∷ of_recording) 0 refl) (among (0 ∷ of_recording) 21 refl))
    (among (0 ∷ of_recording) 15 refl)

pub all : (s : Settings) (long : ℕ) (x : List ℕ) → Numbered of_recording (recorded_of s long x).refusal.number
unfolding recorded_of
all s long x =
    picked (λ (r : Recorded). Numbered of_recording r.refusal.number) (eqb (by_recording s (length x) long) 0) _ _ (among (0 ∷ of_recording) 0 refl)
    (all_by s (length x) long)
