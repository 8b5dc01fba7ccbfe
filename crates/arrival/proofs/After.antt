-- When an arrival is stored, and a store's cells after it (S-6): its segment is in the lowest free cell, and every other cell is as it
-- was. And when it is told as taken: just if it is accepted, segmented, and a record covers it.
-- Assumes nothing.
use Prim.Native.Nat.{ℕ, ◌+◌, ◌*◌, ◌≤◌, ◌<◌}
use mathlib.Core.Path.{◌≡◌, refl, ap, ◌∙◌}
use mathlib.Core.Logic.{◌≢◌}
use mathlib.Core.Bool.{Bool, true, false}
use mathlib.Core.List.{List}
use mathlib.Core.Option.{Option, none, some}
use native.Mathlib.Omega.{arith}
use lib.ListN.{length}
use lib.Dec.{leb, ltb, eqb}
use borrow.Author.Tests.{eqb-true, leb-true, ltb-true, eq-eqb, le-leb, lt-ltb}
use Rattle.octets.specs.Octets.{pick}
use Rattle.walk.specs.declared.Settings.{Settings}
use Rattle.walk.specs.declared.Refusal.{Refusal}
use Rattle.walk.specs.Walk.{refusal}
use Rattle.packet.specs.Reading.{read_packet, segmented}
use Rattle.cells.specs.Segments.{Seg, seg_of, same_rest}
use Rattle.cells.specs.Rows.{free, held, held_row, cell_of}
use Rattle.cells.specs.Order.{is_free, cell_at, untaken_to}
use Rattle.cells.specs.Messages.{cells_of, look}
use Rattle.cells.proofs.Picking.{pick_yes, pick_tells}
use Rattle.cells.proofs.Rows.{row_written, row_other}
use Rattle.cells.proofs.HeldRow.{held_long, cell_held}
use Rattle.cells.proofs.Listed.{Lowest, lowest_is, is_free_lem}
use Rattle.arrival.specs.Arriving.{Arrived, whole, stored, again, late, refused, placed, beside, lowest_free}
use Rattle.arrival.specs.Arriving.{segment_arrived, segment_came, arrived_in, store_with}

-- ---- when an arrival is stored

-- the segment of a packet
abbrev pub segment : Settings → List ℕ → Seg
segment s p = seg_of p (read_packet s p)

-- the packet is accepted, is segmented, lies in no taken range, fits a cell, is new, and goes to the lowest free cell
pub record Stored (s : Settings) (Z : ℕ) (st : List ℕ) (n : ℕ) (p : List ℕ) (i : ℕ) : Type 0 where
  pub accepted : (read_packet s p).refusal.number ≡ 0
  pub segmented : segmented p ≡ true
  pub untaken : untaken_to s Z st n (segment s p).key (segment s p).counter ≡ true
  pub fits : 2 + length p ≤ Z
  pub new : look (cells_of s Z st n) (segment s p).key (segment s p).counter ≡ none
  pub place : Lowest (λ j. is_free (cell_at s Z st j)) n 0 i

not_whole : (i : ℕ) → whole ≡ stored i → ⊥
not_whole i e = let z : ◌≡◌ {A = ℕ} 0 1 = cc in omega arith

not_again : (i : ℕ) → again ≡ stored i → ⊥
not_again i e = let z : ◌≡◌ {A = ℕ} 0 1 = cc in omega arith

not_late : (i : ℕ) → late ≡ stored i → ⊥
not_late i e = let z : ◌≡◌ {A = ℕ} 0 1 = cc in omega arith

pub not_refused : (r : Refusal) (i : ℕ) → refused r ≡ stored i → ⊥
not_refused r i e = let z : ◌≡◌ {A = ℕ} 0 1 = cc in omega arith

beside_new : (o : Option Seg) (t : Seg) (x : Arrived) (i : ℕ) → beside o t x ≡ stored i → (o ≡ none) × (x ≡ stored i)
beside_new none t x i e = (refl, e)
beside_new (some u) t x i e = absurd (not_again i (pick_tells (same_rest u t) again (refused (refusal 18)) (stored i) (not_refused (refusal 18) i) e).1)

placed_low : (n j i : ℕ) → placed n j ≡ stored i → (j < n) × (j ≡ i)
unfolding placed
placed_low n j i e =
    let a = pick_tells (ltb j n) (stored j) (refused (refusal 19)) (stored i) (not_refused (refusal 19) i) e in
    let same : j ≡ i = cc a.1 in
    (ltb-true j n a.0, same)

module _ (s : Settings) (Z : ℕ) (st : List ℕ) (n : ℕ) (p : List ℕ) where
  abbrev number : ℕ
  number = (read_packet s p).refusal.number

  -- an arrival that comes to `stored`
  pub stored_tells : (i : ℕ) → arrived_in s Z st n p ≡ stored i → Stored s Z st n p i
  unfolding arrived_in segment_came segment_arrived
  stored_tells i e =
      let a = pick_tells (eqb number 0) _ _ (stored i) (not_refused (read_packet s p).refusal i) e in
      let b = pick_tells (segmented p) _ _ (stored i) (not_whole i) a.1 in
      let u = pick_tells (untaken_to s Z st n (segment s p).key (segment s p).counter) _ _ (stored i) (not_late i) b.1 in
      let c = pick_tells (leb (2 + length p) Z) _ _ (stored i) (not_refused (refusal 17) i) u.1 in
      let d = beside_new (look (cells_of s Z st n) (segment s p).key (segment s p).counter) (segment s p) _ i c.1 in
      let f = placed_low n (lowest_free s Z st n) i d.1 in
      record {
        accepted = eqb-true number 0 a.0;
        segmented = b.0;
        untaken = u.0;
        fits = leb-true (2 + length p) Z c.0;
        new = d.0;
        place = rw f.1 at (lowest_is (λ j. is_free (cell_at s Z st j)) n 0 (omega (arith, f.0)));
      }

  -- and the other way
  pub stored_told : (i : ℕ) → Stored s Z st n p i → arrived_in s Z st n p ≡ stored i
  unfolding arrived_in segment_came segment_arrived placed
  stored_told i h =
      let l : lowest_free s Z st n < n = omega (arith, h.place.place, h.place.there.top) in
      pick_yes (eqb number 0) _ _ (eq-eqb number 0 h.accepted)
      ∙ pick_yes (segmented p) _ _ h.segmented
      ∙ pick_yes (untaken_to s Z st n (segment s p).key (segment s p).counter) _ _ h.untaken
      ∙ pick_yes (leb (2 + length p) Z) _ _ (le-leb (2 + length p) Z h.fits)
      ∙ ap (λ (o : Option Seg). beside o (segment s p) (placed n (lowest_free s Z st n))) h.new
      ∙ pick_yes (ltb (lowest_free s Z st n) n) _ _ (lt-ltb (lowest_free s Z st n) n l)
      ∙ ap stored h.place.place

  -- ---- when it is taken

  -- a segment that is not covered is never told as taken
  beside_late : (o : Option Seg) (t : Seg) (m j : ℕ) → beside o t (placed m j) ≡ late → ⊥
  unfolding placed
  beside_late none t m j e = go (ltb j m) e
    where
      go : (b : Bool) → pick b (stored j) (refused (refusal 19)) ≡ late → ⊥
      go true d = let z : ◌≡◌ {A = ℕ} 0 1 = cc in omega arith
      go false d = let z : ◌≡◌ {A = ℕ} 0 1 = cc in omega arith
  beside_late (some u) t m j e = go (same_rest u t) e
    where
      go : (b : Bool) → pick b again (refused (refusal 18)) ≡ late → ⊥
      go true d = let z : ◌≡◌ {A = ℕ} 0 1 = cc in omega arith
      go false d = let z : ◌≡◌ {A = ℕ} 0 1 = cc in omega arith

  came_late : (u f : Bool) → pick u (pick f (segment_arrived s Z st n (segment s p)) (refused (refusal 17))) late ≡ late → u ≡ false
  unfolding segment_arrived
  came_late false f e = refl
  came_late true true e = absurd (beside_late (look (cells_of s Z st n) (segment s p).key (segment s p).counter) (segment s p) n (lowest_free s Z st n) e)
  came_late true false e = let z : ◌≡◌ {A = ℕ} 0 1 = cc in absurd (omega arith)

  -- an arrival that comes to `late`: accepted, segmented, and a record covers it
  pub late_tells :
      arrived_in s Z st n p ≡ late →
      (number ≡ 0) × ((segmented p ≡ true) × (untaken_to s Z st n (segment s p).key (segment s p).counter ≡ false))
  unfolding arrived_in segment_came
  late_tells e =
      let a = pick_tells (eqb number 0) _ _ late (λ x. let z : ◌≡◌ {A = ℕ} 0 1 = cc in omega arith) e in
      let b = pick_tells (segmented p) _ _ late (λ x. let z : ◌≡◌ {A = ℕ} 0 1 = cc in omega arith) a.1 in
      (eqb-true number 0 a.0, (b.0, came_late (untaken_to s Z st n (segment s p).key (segment s p).counter) (leb (2 + length p) Z) b.1))

  -- and the other way
  pub late_told :
      number ≡ 0 → segmented p ≡ true → untaken_to s Z st n (segment s p).key (segment s p).counter ≡ false → arrived_in s Z st n p ≡ late
  unfolding arrived_in segment_came
  late_told a b u =
      pick_yes (eqb number 0) _ _ (eq-eqb number 0 a)
      ∙ pick_yes (segmented p) _ _ b
      ∙ ap (λ (x : Bool). pick x (pick (leb (2 + length p) Z) (segment_arrived s Z st n (segment s p)) (refused (refusal 17))) late) u

  -- ---- the cells after it

  module _ (i : ℕ) (e : arrived_in s Z st n p ≡ stored i) where
    h : Stored s Z st n p i
    h = stored_tells i e

    -- the cell is below n, and free before
    pub stored_free : (i < n) × (cell_at s Z st i ≡ free)
    stored_free = (omega (arith, h.place.there.top), is_free_lem (cell_at s Z st i) h.place.holds)

    pub cell_kept : (j : ℕ) → j ≢ i → cell_at s Z (store_with Z st p (stored i)) j ≡ cell_at s Z st j
    unfolding store_with
    cell_kept j d = ap (cell_of s Z) (row_other Z i j st (held_row Z p) (held_long Z p h.fits) d)

    module _ (l : n * Z ≤ length st) where
      pub cell_stored : cell_at s Z (store_with Z st p (stored i)) i ≡ held (segment s p)
      unfolding store_with
      cell_stored =
          ap (cell_of s Z) (row_written Z i n st (held_row Z p) (held_long Z p h.fits) stored_free.0 l)
          ∙ cell_held s Z p h.accepted h.segmented h.fits
