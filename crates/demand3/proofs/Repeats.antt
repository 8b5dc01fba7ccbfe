-- After a taking its cells but one are used again (S-13): none of its segments is held any more, some cell is free, and so a new segment is
-- stored, in the lowest free cell. A late repeat of one of its own is told as taken, whatever its flags and its body, and changes nothing (S-16).
-- Assumes nothing.
use Prim.Native.Nat.{ℕ, ◌+◌, ◌≤◌, ◌<◌}
use mathlib.Core.Path.{◌≡◌, refl, ap, sym, ◌∙◌, subst}
use mathlib.Core.Logic.{◌⊎◌, inl, inr}
use mathlib.Core.Bool.{true, false}
use mathlib.Core.List.Memᴰ
use mathlib.Core.List.{List, [], ◌∷◌}
use mathlib.Core.Option.{none, some-injective}
use native.Mathlib.Omega.{arith}
use lib.ListN.{length}
use Rattle.octets.specs.Octets.{Octets}
use Rattle.octets.proofs.Lists.{bool}
use Rattle.walk.specs.declared.Settings.{Settings}
use Rattle.packet.specs.Reading.{read_packet, segmented}
use Rattle.packet.specs.Numbers.{next_counter, steps_most}
use Rattle.cells.specs.Segments.{Seg, carries}
use Rattle.cells.specs.Rows.{Cell, free, held}
use Rattle.cells.specs.Order.{is_free, cell_at, count_in, untaken_to}
use Rattle.cells.specs.Messages.{cells_of, look, Run, segments}
use Rattle.cells.proofs.Listed.{among_below, Lowest, lowest_is, lowest_some}
use Rattle.cells.proofs.StoreOrder.{cells_inside}
use Rattle.cells.proofs.Gate.{order_has}
use Rattle.cells.proofs.Distinct.{carries_true}
use Rattle.arrival.specs.Arriving.{stored, late, lowest_free, arrived, store_with}
use Rattle.arrival.proofs.After.{segment, Stored, stored_told}
use Rattle.taking.specs.Taking.{message, took, store_less}
use Rattle.taking.proofs.Keeps.{cell_taken}
use Rattle.taking.proofs.Tells.{taken_tells, segment_held}
use Rattle.demand3.specs.Cells.{range_by, freed, clear, recorded}
use Rattle.demand3.specs.Complete.{Single}
use Rattle.demand3.proofs.After.{cells_taken}
use Rattle.demand3.proofs.Zeroed.{after}
use Rattle.demand3.proofs.Untouched.{late_same}
use Rattle.demand3.proofs.Looks.{look_at, clear_gone}
use Rattle.demand3.proofs.Links.{Mem, role_in, Linked, Opened, linked_first}
use Rattle.demand3.proofs.Ranges.{spans_own, has_recorded, recorded_at}
use Rattle.demand3.proofs.Forgets.{own_noted}
use Rattle.demand3.proofs.Finds.{There, found_opened, found_there, picked_lowest, picked_held}
use Rattle.demand3.proofs.Distinct.{order_single}
use Rattle.demand3.proofs.Beside.{among_mem, among_carried}
use Rattle.demand3.proofs.Steps.{Kept, arrived_is, came_late, taking_keeps}

module _ (s : Settings) (Z : ℕ) (st : List ℕ) (o : Octets st) (long : ℕ) (r : Run) (e : took s Z st long ≡ message r) where
  abbrev n : ℕ
  n = count_in Z st

  abbrev cs : List Cell
  cs = cells_of s Z st n

  abbrev then : List ℕ
  then = after s Z st r

  kept : Kept s Z n st
  kept = let t = taken_tells s Z st long r e in record { settings = t.settings; order = t.order; count = refl; octets = o }

  kept_then : Kept s Z n then
  kept_then = subst (λ (x : _). Kept s Z n (store_less s Z st n x)) e (taking_keeps s Z n st kept long)

  cells_then : cells_of s Z then n ≡ clear r cs
  cells_then = cells_taken s Z st o long r e

  opened : Opened next_counter r
  opened = found_opened next_counter steps_most cs r (picked_lowest next_counter steps_most cs r (taken_tells s Z st long r e).picked).1

  -- S-13: no segment of the message is held any more
  pub segment_gone : (t : Seg) → Mem t (segments r) → look (cells_of s Z then n) t.key t.counter ≡ none
  segment_gone t m =
      ap (λ (x : List Cell). look x t.key t.counter) cells_then
      ∙ clear_gone r cs t.key t.counter (λ u h. among_carried (segments r) t u (among_mem (segments r) t m) h)

  single : Single cs
  single = order_single s Z st n (order_has s Z st kept.order).apart

  -- a segment after the first has another key and counter than it
  rest_other : (t : Seg) → Mem t r.rest → carries r.head.key r.head.counter t ≡ false
  rest_other t m = go (bool (carries r.head.key r.head.counter t))
    where
      there : There cs (segments r)
      there =
          let p = (taken_tells s Z st long r e).picked in
          found_there next_counter steps_most cs r single (picked_held next_counter steps_most cs r p) (picked_lowest next_counter steps_most cs r p).1

      go : (carries r.head.key r.head.counter t ≡ true) ⊎ (carries r.head.key r.head.counter t ≡ false) →
          carries r.head.key r.head.counter t ≡ false
      go (inr h) = h
      go (inl h) =
          let p = carries_true r.head.key r.head.counter t h in
          let q : r.head ≡ t =
          some-injective r.head t
          (sym (there r.head (Memᴰ.head refl)) ∙ look_at cs p.0 p.1 ∙ there t (Memᴰ.tail m)) in
          absurd
          (linked_first next_counter r.head.key (next_counter r.head.counter) r.rest opened.follows t m
          (ap role_in (sym q) ∙ opened.opens))

  -- some cell is free, since the message has a second segment; so the lowest free one is there
  pub room : Lowest (λ j. is_free (cell_at s Z then j)) n 0 (lowest_free s Z then n)
  room = go r.rest refl opened.follows
    where
      freed_free : (x : Cell) (t : Seg) → x ≡ held t → Mem t r.rest → freed r x ≡ free
      freed_free x t d m = rw (d, among_mem (segments r) t (Memᴰ.tail m), rest_other t m)

      by : (t : Seg) → Mem t r.rest → Lowest (λ j. is_free (cell_at s Z then j)) n 0 (lowest_free s Z then n)
      by t m =
          let a = segment_held s Z st long r e t (Memᴰ.tail m) in
          let b : cell_at s Z then a.0 ≡ free = cell_taken s Z st o n r (cells_inside Z st) (taken_tells s Z st long r e).picked a.0 a.1 ∙ freed_free (cell_at s Z st a.0) t a.2 m in
          let c = lowest_some (λ j. is_free (cell_at s Z then j)) n 0 a.0 (among_below a.1) (ap is_free b) in
          lowest_is (λ j. is_free (cell_at s Z then j)) n 0 (omega (arith, a.1))

      go : (ts : List Seg) → r.rest ≡ ts → Linked next_counter r.head.key (next_counter r.head.counter) ts →
          Lowest (λ j. is_free (cell_at s Z then j)) n 0 (lowest_free s Z then n)
      go [] d l = absurd l
      go (t ∷ ts) d l = by t (subst (Mem t) (sym d) (Memᴰ.head refl))

  module _ (p : List ℕ) (accepted : (read_packet s p).refusal.number ≡ 0) (segs : segmented p ≡ true) where
    -- S-13: freed cells are used again: a new segment goes to the lowest free cell
    pub new_stored :
        2 + length p ≤ Z → untaken_to s Z then n (segment s p).key (segment s p).counter ≡ true →
        look (cells_of s Z then n) (segment s p).key (segment s p).counter ≡ none →
        (lowest_free s Z then n < n) × (arrived s Z then p ≡ stored (lowest_free s Z then n))
    new_stored fits out new =
        let i : ℕ = lowest_free s Z then n in
        let h : Stored s Z then n p i =
        record { accepted = accepted; segmented = segs; untaken = out; fits = fits; new = new; place = room } in
        (omega (arith, room.there.top), arrived_is s Z n then kept_then p ∙ stored_told s Z then n p i h)

    -- S-16: a late repeat of a segment of the message is told as taken
    pub repeat_late :
        (t : Seg) → Mem t (segments r) → (segment s p).key ≡ t.key → (segment s p).counter ≡ t.counter →
        (arrived s Z then p ≡ late) × (store_with Z then p (arrived s Z then p) ≡ then)
    repeat_late t m k c = (told, late_same s Z then p told)
      where
        noted : recorded next_counter (cells_of s Z then n) t.key t.counter ≡ true
        noted =
            ap (λ (x : List Cell). recorded next_counter x t.key t.counter) cells_then
            ∙ has_recorded next_counter (clear r cs) t.key t.counter (range_by r)
            (own_noted r cs (among_mem (segments r) r.head (Memᴰ.head refl))
            (picked_held next_counter steps_most cs r (taken_tells s Z st long r e).picked))
            (spans_own next_counter r opened t m)

        told : arrived s Z then p ≡ late
        told = arrived_is s Z n then kept_then p ∙ came_late s Z n then kept_then p accepted segs (recorded_at next_counter (cells_of s Z then n) k c ∙ noted)
