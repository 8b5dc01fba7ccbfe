-- What the cells of a store weigh: as many octets as their segments can still give to a message; a taken record weighs nothing. An arrival
-- adds no more than its packet has with its mark, a taking takes off at least what it gives, and forgetting adds nothing.
-- Assumes nothing.
use Prim.Native.Nat.{ℕ, ◌+◌, ◌*◌, ◌≤◌, ◌<◌}
use mathlib.Core.Path.{◌≡◌, refl, ap, ◌∙◌}
use mathlib.Core.Logic.{◌≢◌, ◌⊎◌, inl, inr}
use mathlib.Core.Bool.{Bool, true, false}
use mathlib.Core.List.{List, [], ◌∷◌, ◌++◌}
use native.Mathlib.Omega.{arith}
use lib.ListN.{length, drop, length-append, length-take, length-drop}
use lib.Seq.{sets}
use lib.Dec.{eqb}
use borrow.Author.Tests.{eqb-true}
use Rattle.octets.specs.Octets.{pick, Octets}
use Rattle.octets.proofs.Lists.{bool}
use Rattle.walk.specs.declared.Settings.{Settings}
use Rattle.packet.specs.Reading.{read_packet}
use Rattle.packet.specs.Format.{identification, header_octets}
use Rattle.packet.specs.Numbers.{next_counter, steps_most}
use Rattle.format.specs.Told.{values_of}
use Rattle.format.proofs.Frame.{identification_long}
use Rattle.format.proofs.Accepting.{accepted}
use Rattle.cells.specs.Segments.{Seg, seg_of}
use Rattle.cells.specs.Rows.{Range, Cell, free, taken, zero_row}
use Rattle.cells.specs.Order.{carries_in, cell_at, count_in}
use Rattle.cells.specs.Messages.{listed, Run, bodies, segments, among_in}
use Rattle.arrival.specs.Arriving.{stored, arrived, store_with}
use Rattle.taking.specs.Taking.{message, writing, took, store_less}
use Rattle.taking.specs.Forgetting.{forgot, store_forgotten}
use Rattle.cells.proofs.Lowest.{same_or}
use Rattle.cells.proofs.StoreOrder.{cells_inside}
use Rattle.cells.proofs.Members.{opening}
use Rattle.arrival.proofs.After.{segment, stored_tells, cell_kept, cell_stored}
use Rattle.arrival.proofs.Keeps.{arrive_long, arrived_tells}
use Rattle.taking.proofs.Keeps.{cell_taken, take_long}
use Rattle.taking.proofs.Recorded.{range_left}
use Rattle.taking.proofs.Tells.{taken_tells}
use Rattle.taking.proofs.Forgets.{forget_long, cell_forgotten, cell_unforgotten}
use Rattle.cells.proofs.Empty.{zeros, empty_cell, empty_count}
use Rattle.recording.proofs.Climbing.{sum, sum_most, sum_none, sum_but, in_cell, weights, on, rest_climbs, left, climbs_less}

-- ---- what is weighed

-- a message begins with 6 octets and the key
abbrev pub weight : Seg → ℕ
weight t = 6 + (length t.key + length t.body)

bodies_light : (ts : List Seg) → length (bodies ts) ≤ weights weight ts
unfolding bodies weights
bodies_light [] = omega arith
bodies_light (t ∷ ts) = let a = bodies_light ts in omega (arith, length-append t.body (bodies ts))

-- a message gives no more than its segments weigh
message_light : (r : Run) → 6 + length (writing r) ≤ weights weight (segments r)
unfolding bodies weights
message_light r =
    omega (arith, length-append r.head.key (r.head.body ++ bodies r.rest), length-append r.head.body (bodies r.rest), bodies_light r.rest)

-- a record weighs as much as a free cell
record_light : (a b : Bool) (g : Range) (x : Cell) → in_cell weight (pick a (pick b (taken g) free) x) ≡ in_cell weight (pick a free x)
record_light true true g x = refl
record_light true false g x = refl
record_light false b g x = refl

-- ---- a store

module _ (s : Settings) (Z : ℕ) where
  -- what it weighs
  unfoldable pub weighs : List ℕ → ℕ
  weighs st = sum (λ j. in_cell weight (cell_at s Z st j)) (count_in Z st) 0

  pub weighs_none : (n : ℕ) → 1 ≤ Z → weighs (zeros Z n) ≡ 0
  unfolding weighs
  weighs_none n h =
      let a = sum_most (λ j. in_cell weight (cell_at s Z (zeros Z n) j)) (λ j. 0) (count_in Z (zeros Z n)) 0 (λ j m. none_at j (omega (arith, m.top, empty_count s Z n h))) in
      let b = sum_none (count_in Z (zeros Z n)) 0 in
      omega arith
    where
      none_at : (j : ℕ) → j < n → in_cell weight (cell_at s Z (zeros Z n) j) ≤ 0
      none_at j l = rw (empty_cell s Z n j l) (omega arith)

  -- a packet's segment weighs no more than the packet and its mark
  segment_light : (p : List ℕ) → Octets p → (read_packet s p).refusal.number ≡ 0 → weight (segment s p) ≤ 2 + length p
  unfolding seg_of
  segment_light p o z =
      let a = accepted s p o z in
      let h = read_packet s p in
      let v = (values_of p h).head in
      omega (
        arith,
        ap length a.key,
        length-append (identification v) (header_octets s v),
        identification_long v,
        a.h_is,
        a.body_place,
        a.body_end,
        length-take h.body.length (drop h.body.at p),
        length-drop h.body.at p,
      )

  pub arrival_weighs :
      (st p : List ℕ) (i : ℕ) → Octets p → arrived s Z st p ≡ stored i → weighs (store_with Z st p (stored i)) ≤ weighs st + (2 + length p)
  unfolding weighs
  arrival_weighs st p i o e =
      let n = count_in Z st in
      let x = store_with Z st p (stored i) in
      let d = (arrived_tells s Z st p i e).1.1 in
      let h = stored_tells s Z st n p i d in
      let a = cell_stored s Z st n p i d (cells_inside Z st) in
      let l = segment_light p o h.accepted in
      let here : in_cell weight (cell_at s Z x i) + 0 ≤ in_cell weight (cell_at s Z st i) + (2 + length p) = rw a (omega arith) in
      let g = sum_but (λ j. in_cell weight (cell_at s Z x j)) (λ j. in_cell weight (cell_at s Z st j)) 0 (2 + length p) n 0 i h.place.there here
      (λ k z q. rw (cell_kept s Z st n p i d k z) (omega arith)) in
      rw (arrive_long Z st p (stored i)) (omega arith)

  pub taking_weighs :
      (st : List ℕ) → Octets st → (long : ℕ) (r : Run) → took s Z st long ≡ message r → 6 + length (writing r) + weighs (store_less s Z st (count_in Z st) (message r)) ≤ weighs st
  unfolding weighs
  taking_weighs st o long r e =
      let n = count_in Z st in
      let x = store_less s Z st n (message r) in
      let f = cell_at s Z st in
      let d = (taken_tells s Z st long r e).picked in
      let a = opening next_counter steps_most (listed f n 0) f n 0 r d in
      let w = rest_climbs f n steps_most r.head.key (next_counter r.head.counter) r.rest a.3 in
      let g = climbs_less f n weight (on refl a.0 a.1 a.2 w) (omega arith) in
      let k : (j : ℕ) → j < n → in_cell weight (cell_at s Z x j) ≡ left f n weight (segments r) j =
      λ j q. ap (in_cell weight) (cell_taken s Z st o n r (cells_inside Z st) d j q)
      ∙ record_light (among_in (segments r) (f j)) (carries_in r.head.key r.head.counter (f j)) (range_left r) (f j) in
      let m = sum_most (λ j. in_cell weight (cell_at s Z x j)) (left f n weight (segments r)) n 0 (λ j q. omega (arith, k j (omega (arith, q.top)))) in
      let l = message_light r in
      rw (take_long Z st s n (message r)) (omega arith)

  pub forgetting_weighs : (st : List ℕ) (i : ℕ) → weighs (store_forgotten s Z st i) ≤ weighs st
  unfolding weighs
  forgetting_weighs st i = rw (forget_long s Z st i) (sum_most (λ j. in_cell weight (cell_at s Z x j)) (λ j. in_cell weight (cell_at s Z st j)) (count_in Z st) 0 (λ j q. at j))
    where
      x : List ℕ
      x = store_forgotten s Z st i

      stays : eqb (forgot s Z st i) 0 ≡ false → x ≡ st
      stays e = ap (λ (b : Bool). pick b (sets st (i * Z) (zero_row Z)) st) e

      here : (eqb (forgot s Z st i) 0 ≡ true) ⊎ (eqb (forgot s Z st i) 0 ≡ false) → in_cell weight (cell_at s Z x i) ≤ in_cell weight (cell_at s Z st i)
      here (inl e) = omega (arith, ap (in_cell weight) (cell_forgotten s Z st i (eqb-true (forgot s Z st i) 0 e)))
      here (inr e) = omega (arith, ap (λ (y : List ℕ). in_cell weight (cell_at s Z y i)) (stays e))

      at : (j : ℕ) → in_cell weight (cell_at s Z x j) ≤ in_cell weight (cell_at s Z st j)
      at j = go (same_or j i)
        where
          go : (j ≡ i) ⊎ (j ≢ i) → in_cell weight (cell_at s Z x j) ≤ in_cell weight (cell_at s Z st j)
          go (inl e) = rw e (here (bool (eqb (forgot s Z st i) 0)))
          go (inr d) = omega (arith, ap (in_cell weight) (cell_unforgotten s Z st i j d))
