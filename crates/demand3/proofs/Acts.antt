-- Calls on a store's octets told by its cells alone: what each packet is to the store, and how long each output. So the hypotheses of
-- demand 3 about a given list of calls are told by tests that compute over cells.
-- Assumes nothing.
use Prim.Native.Nat.{ℕ, ◌+◌, ◌≤◌, ◌<◌}
use mathlib.Core.Path.{◌≡◌, refl, ap, ap₂, sym, ◌∙◌}
use mathlib.Core.Logic.{◌⊎◌, inl, inr}
use mathlib.Core.Bool.{Bool, true, false, not}
use mathlib.Core.Option.{Option, none, some}
use mathlib.Core.List.Memᴰ
use mathlib.Core.List.{List, [], ◌∷◌, ◌++◌, map, Memᴰ}
use native.Mathlib.Omega.{arith}
use lib.ListN.{length}
use lib.Dec.{leb, ltb, eqb}
use borrow.Author.Tests.{le-leb, not-true}
use Rattle.octets.specs.Octets.{pick}
use Rattle.octets.proofs.Lists.{bool}
use Rattle.walk.specs.declared.Settings.{Settings}
use Rattle.walk.specs.Walk.{refusal}
use Rattle.packet.specs.Reading.{read_packet, segmented}
use Rattle.packet.specs.Numbers.{next_counter, steps_most}
use Rattle.cells.specs.Segments.{Seg, both, same_rest}
use Rattle.cells.specs.Rows.{Cell, may_hold}
use Rattle.cells.specs.Order.{untaken_to}
use Rattle.cells.specs.Messages.{cells_of, look}
use Rattle.arrival.specs.Arriving.{whole, stored, again, late, refused, placed, beside, lowest_free, segment_arrived, segment_came, arrived_in, arrived}
use Rattle.demand3.specs.Cells.{has_free, recorded}
use Rattle.cells.proofs.Picking.{pick_yes}
use Rattle.arrival.proofs.After.{segment}
use Rattle.demand3.proofs.After.{has_free_lem}
use Rattle.demand3.specs.Traffic.{Event, arrives, passes, takes, forgets, empty, after, Room as CellRoom}
use Rattle.demand3.specs.Calls.{Call, arrival, taking, joining, forgetting, Brings, Handed, Plain, goes_on, draws, store_by}
use Rattle.demand3.specs.Sendings.{Sending, many_of, packet_with, segment_at, IsCut}
use Rattle.demand3.specs.Presupposed.{InUse, empty_store, store_behind, Room}
use Rattle.demand3.proofs.ReadAs.{repeat_reads, repeat_octets, own_fits}
use Rattle.demand3.proofs.Marked.{untaken_is}
use Rattle.demand3.proofs.Plain.{plain_first, plain_rest, plain_at}
use Rattle.demand3.proofs.Steps.{pick_no, event_of, event_reads, reads_event, Kept, arrived_is, segment_came_lem}
use Rattle.demand3.proofs.Events.{drawing, events_by, events_in, events_append}
use Rattle.demand3.proofs.Simulates.{by_keeps, by_cells}
use Rattle.demand3.proofs.Carried.{behind_cells}

-- ---- every packet that is handed over

abbrev pub EachPacket : (List ℕ → Type 0) → List Call → Type 0
EachPacket F [] = Unit {0}
EachPacket F (arrival p ∷ cs) = F p × EachPacket F cs
EachPacket F (taking out ∷ cs) = EachPacket F cs
EachPacket F (joining p out ∷ cs) = F p × EachPacket F cs
EachPacket F (forgetting i ∷ cs) = EachPacket F cs

pub each_packet : (F : List ℕ → Type 0) (cs : List Call) → EachPacket F cs → (p : List ℕ) → Handed p cs → F p
each_packet F [] w p h = absurd (Memᴰ.not-nil h.1)
each_packet F (arrival q ∷ cs) w p h = go (λ k. each_packet F cs w.1 p (h.0, k, h.2)) (Memᴰ.cases_cons h.1)
  where
    at : arrival q ≡ h.0 → Brings p h.0 → F p
    at e (inl d) = let f : arrival q ≡ arrival p = e ∙ d in let g : p ≡ q = cc f in rw g w.0
    at e (inr d) = let f : arrival q ≡ joining p d.0 = e ∙ d.1 in let z : ◌≡◌ {A = ℕ} 0 1 = cc f in absurd (omega arith)

    go : (Memᴰ h.0 cs → F p) → (h.0 ≡ arrival q) ⊎ Memᴰ h.0 cs → F p
    go ih (inl e) = at (sym e) h.2
    go ih (inr k) = ih k
each_packet F (taking out ∷ cs) w p h = go (λ k. each_packet F cs w p (h.0, k, h.2)) (Memᴰ.cases_cons h.1)
  where
    at : taking out ≡ h.0 → Brings p h.0 → F p
    at e (inl d) = let f : taking out ≡ arrival p = e ∙ d in let z : ◌≡◌ {A = ℕ} 0 1 = cc f in absurd (omega arith)
    at e (inr d) = let f : taking out ≡ joining p d.0 = e ∙ d.1 in let z : ◌≡◌ {A = ℕ} 0 1 = cc f in absurd (omega arith)

    go : (Memᴰ h.0 cs → F p) → (h.0 ≡ taking out) ⊎ Memᴰ h.0 cs → F p
    go ih (inl e) = at (sym e) h.2
    go ih (inr k) = ih k
each_packet F (joining q out ∷ cs) w p h = go (λ k. each_packet F cs w.1 p (h.0, k, h.2)) (Memᴰ.cases_cons h.1)
  where
    at : joining q out ≡ h.0 → Brings p h.0 → F p
    at e (inl d) = let f : joining q out ≡ arrival p = e ∙ d in let z : ◌≡◌ {A = ℕ} 0 1 = cc f in absurd (omega arith)
    at e (inr d) = let f : joining q out ≡ joining p d.0 = e ∙ d.1 in let g : p ≡ q = cc f in rw g w.0

    go : (Memᴰ h.0 cs → F p) → (h.0 ≡ joining q out) ⊎ Memᴰ h.0 cs → F p
    go ih (inl e) = at (sym e) h.2
    go ih (inr k) = ih k
each_packet F (forgetting i ∷ cs) w p h = go (λ k. each_packet F cs w p (h.0, k, h.2)) (Memᴰ.cases_cons h.1)
  where
    at : forgetting i ≡ h.0 → Brings p h.0 → F p
    at e (inl d) = let f : forgetting i ≡ arrival p = e ∙ d in let z : ◌≡◌ {A = ℕ} 0 1 = cc f in absurd (omega arith)
    at e (inr d) = let f : forgetting i ≡ joining p d.0 = e ∙ d.1 in let z : ◌≡◌ {A = ℕ} 0 1 = cc f in absurd (omega arith)

    go : (Memᴰ h.0 cs → F p) → (h.0 ≡ forgetting i) ⊎ Memᴰ h.0 cs → F p
    go ih (inl e) = at (sym e) h.2
    go ih (inr k) = ih k

-- a segment of a message, whatever its sequence count, arrives as that segment
pub repeat_event : (s : Settings) (Z : ℕ) (m : Sending) → IsCut s Z m → (i : ℕ) → i < many_of s m → (c : ℕ) → c < 16384 →
    event_of s Z (packet_with s m i c) ≡ arrives (segment_at s m i)
repeat_event s Z m k i l c h =
    let r = repeat_reads s Z m k i l c h in
    reads_event s Z (packet_with s m i c) (segment_at s m i) r
    (own_fits s Z m k i l (packet_with s m i c) (repeat_octets s Z m k i l c h) r)

-- ---- calls by their events

-- the segment of a packet that fits no cell: it passes, but if a record has it in its range it is told as taken
unfoldable pub far_of : Settings → ℕ → List ℕ → Option Seg
far_of s Z p = pick (both (not (leb (2 + length p) Z)) (both (eqb (read_packet s p).refusal.number 0) (segmented p))) (some (segment s p)) none

pub data Act : Type 0 where
  comes : Event → Act
  draw : ℕ → Act
  meets : Event → Option Seg → ℕ → Act
  forgoes : ℕ → Act

abbrev pub act_of : Settings → ℕ → Call → Act
act_of s Z (arrival p) = comes (event_of s Z p)
act_of s Z (taking out) = draw (length out)
act_of s Z (joining p out) = meets (event_of s Z p) (far_of s Z p) (length out)
act_of s Z (forgetting i) = forgoes i

abbrev pub lands_beside : Option Seg → List Cell → Seg → Bool
lands_beside none cs t = has_free cs
lands_beside (some u) cs t = same_rest u t

abbrev pub lands_far : List Cell → Option Seg → Bool
lands_far cs none = false
lands_far cs (some t) = recorded next_counter cs t.key t.counter

-- a segment is stored, held already, or told as taken
abbrev pub lands : List Cell → Event → Option Seg → Bool
lands cs (arrives t) o = pick (recorded next_counter cs t.key t.counter) true (lands_beside (look cs t.key t.counter) cs t)
lands cs passes o = lands_far cs o
lands cs (takes long) o = false
lands cs (forgets i) o = false

abbrev pub events_of : List Cell → Act → List Event
events_of cs (comes e) = e ∷ []
events_of cs (draw long) = takes long ∷ []
events_of cs (meets e o long) = e ∷ pick (lands cs e o) (takes long ∷ []) []
events_of cs (forgoes i) = forgets i ∷ []

unfoldable pub act_events : List Cell → List Act → List Event
act_events cs [] = []
act_events cs (a ∷ l) = events_of cs a ++ act_events (after next_counter steps_most cs (events_of cs a)) l

-- a packet that arrives as a segment fits
pub event_near : (s : Settings) (Z : ℕ) (p : List ℕ) (t : Seg) → event_of s Z p ≡ arrives t → far_of s Z p ≡ none
unfolding far_of
event_near s Z p t e = rw (le-leb (2 + length p) Z (event_reads s Z p t e).1)

module _ (s : Settings) (Z n : ℕ) where
  module _ (st : List ℕ) (k : Kept s Z n st) where
    abbrev cs : List Cell
    cs = cells_of s Z st n

    -- from a packet that may not be held a joining goes on only if it is told as taken
    passed_on : (p : List ℕ) → may_hold s Z p ≡ false → goes_on (arrived_in s Z st n p) ≡ lands_far cs (far_of s Z p)
    unfolding arrived_in segment_came may_hold far_of
    passed_on p e =
        ap
        (λ (u : Bool).
        goes_on
        (pick (eqb (read_packet s p).refusal.number 0)
        (pick (segmented p) (pick u (pick (leb (2 + length p) Z) (segment_arrived s Z st n (segment s p)) (refused (refusal 17))) late) whole)
        (refused (read_packet s p).refusal)))
        (untaken_is s Z st n (segment s p).key (segment s p).counter)
        ∙ go (eqb (read_packet s p).refusal.number 0) (segmented p) (recorded next_counter cs (segment s p).key (segment s p).counter)
        (leb (2 + length p) Z) refl e
      where
        go : (a b r c : Bool) → recorded next_counter cs (segment s p).key (segment s p).counter ≡ r → both c (both a b) ≡ false →
            goes_on
            (pick a (pick b (pick (not r) (pick c (segment_arrived s Z st n (segment s p)) (refused (refusal 17))) late) whole)
            (refused (read_packet s p).refusal))
            ≡ lands_far cs (pick (both (not c) (both a b)) (some (segment s p)) none)
        go false b r true d h = refl
        go false b r false d h = refl
        go true false r true d h = refl
        go true false r false d h = refl
        go true true r true d h = let z : ◌≡◌ {A = ℕ} 0 1 = cc in absurd (omega arith)
        go true true true false d h = sym d
        go true true false false d h = sym d

    -- a joining goes on where the segment lands
    pub goes_on_lem : (p : List ℕ) → goes_on (arrived s Z st p) ≡ lands cs (event_of s Z p) (far_of s Z p)
    unfolding segment_arrived placed
    goes_on_lem p = ap goes_on (arrived_is s Z n st k p) ∙ go (bool (may_hold s Z p))
      where
        new : (b : Bool) → goes_on (pick b (stored (lowest_free s Z st n)) (refused (refusal 19))) ≡ b
        new true = refl
        new false = refl

        old : (b : Bool) → goes_on (pick b again (refused (refusal 18))) ≡ b
        old true = refl
        old false = refl

        at : (o : Option Seg) → goes_on (beside o (segment s p) (placed n (lowest_free s Z st n))) ≡ lands_beside o cs (segment s p)
        at none = new (ltb (lowest_free s Z st n) n) ∙ sym (has_free_lem s Z st n)
        at (some u) = old (same_rest u (segment s p))

        beside_record : (b : Bool) → goes_on (pick (not b) (segment_arrived s Z st n (segment s p)) late) ≡
            pick b true (lands_beside (look cs (segment s p).key (segment s p).counter) cs (segment s p))
        beside_record true = refl
        beside_record false = at (look cs (segment s p).key (segment s p).counter)

        go : (may_hold s Z p ≡ true) ⊎ (may_hold s Z p ≡ false) → goes_on (arrived_in s Z st n p) ≡ lands cs (event_of s Z p) (far_of s Z p)
        go (inl e) =
            ap goes_on (segment_came_lem s Z n st k p e)
            ∙ ap (λ (b : Bool). goes_on (pick b (segment_arrived s Z st n (segment s p)) late)) (untaken_is s Z st n (segment s p).key (segment s p).counter)
            ∙ beside_record (recorded next_counter cs (segment s p).key (segment s p).counter)
            ∙ ap (λ (x : Event). lands cs x (far_of s Z p)) (sym (pick_yes (may_hold s Z p) (arrives (segment s p)) passes e))
        go (inr e) =
            passed_on p e ∙ ap (λ (x : Event). lands cs x (far_of s Z p)) (sym (pick_no (may_hold s Z p) (arrives (segment s p)) passes e))

    pub draws_by : (p out : List ℕ) → draws s Z st (joining p out) ≡ lands cs (event_of s Z p) (far_of s Z p)
    draws_by p out = goes_on_lem p

    pub by_acts : (c : Call) → events_by s Z st c ≡ events_of cs (act_of s Z c)
    by_acts (arrival p) = refl
    by_acts (taking out) = refl
    by_acts (joining p out) =
        ap (λ (b : Bool). event_of s Z p ∷ drawing s Z b (joining p out)) (goes_on_lem p)
    by_acts (forgetting i) = refl

  pub acts_are : (l : List Call) (st : List ℕ) → Kept s Z n st → Plain l →
      events_in s Z st l ≡ act_events (cells_of s Z st n) (map (act_of s Z) l)
  unfolding events_in act_events
  acts_are [] st k o = refl
  acts_are (c ∷ l) st k o =
      ap₂ ◌++◌ (by_acts st k c)
      (acts_are l (store_by s Z st c) (by_keeps s Z n st k c (plain_first c l o)) (plain_rest c l o)
      ∙ ap (λ (x : List Cell). act_events x (map (act_of s Z) l))
      (by_cells s Z n st k c (plain_first c l o) ∙ ap (after next_counter steps_most (cells_of s Z st n)) (by_acts st k c)))

  -- ---- the room and a message untaken, told by the events

  abbrev zeros : List ℕ
  zeros = empty_store Z n

  starts_with : (c : Call) (p : List ℕ) (st : List ℕ) → Brings p c →
      (q : List Event) × (events_by s Z st c ≡ event_of s Z p ∷ q)
  starts_with c p st (inl e) = (drawing s Z (draws s Z st c) c, rw e refl)
  starts_with c p st (inr e) = (drawing s Z (draws s Z st c) c, rw e.1 refl)

  unrecorded : (st : List ℕ) (t : Seg) → untaken_to s Z st n t.key t.counter ≡ true → recorded next_counter (cells_of s Z st n) t.key t.counter ≡ false
  unrecorded st t e = not-true (recorded next_counter (cells_of s Z st n) t.key t.counter) (sym (untaken_is s Z st n t.key t.counter) ∙ e)

  pub room_told : (one : 1 ≤ Z) → InUse s n → (l : List Call) → Plain l → CellRoom next_counter steps_most (empty n) (events_in s Z zeros l) → Room s Z n l
  unfolding events_in
  room_told one u l pl r x y c p e b a g f out new =
      let t = segment s p in
      let st = store_behind s Z n x in
      let v = starts_with c p st b in
      let w : event_of s Z p ≡ arrives t = reads_event s Z p t (record { accepted = a; segmented = g; segment = refl }) f in
      let d : events_in s Z zeros l ≡ events_in s Z zeros x ++ arrives t ∷ (v.0 ++ events_in s Z (store_by s Z st c) y) =
      ap (events_in s Z zeros) e ∙ events_append s Z x (c ∷ y) zeros
      ∙ ap (λ (z : List Event). events_in s Z zeros x ++ (z ++ events_in s Z (store_by s Z st c) y)) v.1
      ∙ ap (λ (z : Event). events_in s Z zeros x ++ z ∷ (v.0 ++ events_in s Z (store_by s Z st c) y)) w in
      let m = behind_cells s Z n one u x (plain_at l x y c e pl).0 in
      ap has_free m
      ∙ r (events_in s Z zeros x) (v.0 ++ events_in s Z (store_by s Z st c) y) t d
      (ap (λ (z : List Cell). recorded next_counter z t.key t.counter) (sym m) ∙ unrecorded st t out)
      (ap (λ (z : List Cell). look z t.key t.counter) (sym m) ∙ new)
