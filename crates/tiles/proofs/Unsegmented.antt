-- The frames of a recording that are not of joined messages are just those of its unsegmented packets that reading accepts.
-- Assumes nothing.
use Prim.Native.Nat.{ℕ, ◌+◌, ◌≤◌}
use mathlib.Core.Path.{◌≡◌, refl, ap, sym, ◌∙◌, subst}
use mathlib.Core.Logic.{◌⊎◌, inl, inr}
use mathlib.Core.Bool.{Bool, true, false}
use mathlib.Core.Option.{Option, none, some}
use mathlib.Core.List.{List, [], ◌∷◌, ◌++◌, Memᴰ}
use native.Mathlib.Omega.{arith}
use lib.ListN.{length}
use lib.Dec.{leb, ltb, eqb}
use borrow.Author.Tests.{eqb-true, eq-eqb, leb-true, le-leb}
use Rattle.octets.specs.Octets.{pick, Octets}
use Rattle.walk.specs.declared.Refusal.{Refusal}
use Rattle.walk.specs.declared.Settings.{Settings}
use Rattle.packet.specs.Format.{SettingsInRange}
use Rattle.walk.specs.Walk.{refusal}
use Rattle.packet.specs.Reading.{read_packet, segmented}
use Rattle.cells.specs.Segments.{Seg, seg_of, same_rest}
use Rattle.cells.specs.Order.{untaken_to}
use Rattle.cells.specs.Messages.{cells_of, look, body_of}
use Rattle.arrival.specs.Arriving.{Arrived, whole, stored, again, late as as_taken, refused, placed, beside, lowest_free}
use Rattle.arrival.specs.Arriving.{segment_arrived, segment_came, arrived_in, arrived, store_with}
use Rattle.taking.specs.Taking.{Took, message, unable, took}
use Rattle.join.specs.Joining.{took_as, joined_by, joining as joining_of}
use Rattle.join.specs.Inner.{is_late}
use Rattle.steps.specs.Stepping.{longest, room, roomed, Came, over, kept, late, wholly, refused as refused_by, message as message_of, came_by, came_at, came_of}
use Rattle.recording.specs.Recording.{cell_count, empty_store}
use Rattle.demand3.proofs.Steps.{Kept, arrived_is}
use Rattle.demand3.proofs.Carried.{behind_keeps}
use Rattle.tiles.specs.Along.{packets_of, store_along, whole_packet, joined, frames_by, frames_from, frames_of}
use Rattle.tiles.specs.Written.{store_for, RecordingWhole}
use Rattle.tiles.proofs.Framing.{Z, packets_octets, frame_at, at_frame}
use Rattle.tiles.proofs.Joinings.{short, calls_to, to_store}
use Rattle.tiles.proofs.Comes.{in_use_lem, one_octet, plain_to}

-- ---- an arrival that is whole

module _ (s : Settings) (st p : List ℕ) where
  segment_no : (n : ℕ) (t : Seg) → segment_arrived s Z st n t ≡ whole → ⊥
  unfolding segment_arrived placed
  segment_no n t e = go (look (cells_of s Z st n) t.key t.counter) e
    where
      new : (b : Bool) → pick b (stored (lowest_free s Z st n)) (refused (refusal 19)) ≡ whole → ⊥
      new true d = let z : ◌≡◌ {A = ℕ} 0 1 = cc d in omega arith
      new false d = let z : ◌≡◌ {A = ℕ} 0 1 = cc d in omega arith

      old : (b : Bool) → pick b again (refused (refusal 18)) ≡ whole → ⊥
      old true d = let z : ◌≡◌ {A = ℕ} 0 1 = cc d in omega arith
      old false d = let z : ◌≡◌ {A = ℕ} 0 1 = cc d in omega arith

      go : (o : Option Seg) → beside o t (placed n (lowest_free s Z st n)) ≡ whole → ⊥
      go none d = new (ltb (lowest_free s Z st n) n) d
      go (some u) d = old (same_rest u t) d

  in_whole : (n : ℕ) → arrived_in s Z st n p ≡ whole → ((read_packet s p).refusal.number ≡ 0) × (segmented p ≡ false)
  unfolding arrived_in segment_came
  in_whole n e = go (eqb (read_packet s p).refusal.number 0) refl (segmented p) (untaken_to s Z st n (seg_of p (read_packet s p)).key (seg_of p (read_packet s p)).counter) (leb (2 + length p) Z) e
    where
      k : ℕ
      k = (read_packet s p).refusal.number

      go : (a : Bool) → eqb (read_packet s p).refusal.number 0 ≡ a → (b u c : Bool) →
          pick a (pick b (pick u (pick c (segment_arrived s Z st n (seg_of p (read_packet s p))) (refused (refusal 17))) as_taken) whole) (refused (read_packet s p).refusal)
          ≡ whole →
          ((read_packet s p).refusal.number ≡ 0) × (b ≡ false)
      go true f false u c d = (eqb-true k 0 f, refl)
      go true f true true true d = absurd (segment_no n (seg_of p (read_packet s p)) d)
      go true f true true false d = let z : ◌≡◌ {A = ℕ} 0 1 = cc d in absurd (omega arith)
      go true f true false c d = let z : ◌≡◌ {A = ℕ} 0 1 = cc d in absurd (omega arith)
      go false f b u c d = let z : ◌≡◌ {A = ℕ} 0 1 = cc d in absurd (omega arith)

  whole_in : (n : ℕ) → (read_packet s p).refusal.number ≡ 0 → segmented p ≡ false → arrived_in s Z st n p ≡ whole
  unfolding arrived_in
  whole_in n a b = rw (eq-eqb (read_packet s p).refusal.number 0 a, b) refl

  -- ---- and what it comes to

  not_wholly : (k : Refusal) (l b : Bool) → pick b (pick l late kept) (refused_by k) ≡ wholly → ⊥
  not_wholly k true true d = let z : ◌≡◌ {A = ℕ} 0 1 = cc d in omega arith
  not_wholly k false true d = let z : ◌≡◌ {A = ℕ} 0 1 = cc d in omega arith
  not_wholly k l false d = let z : ◌≡◌ {A = ℕ} 0 1 = cc d in omega arith

  took_no : (l : Bool) (t : Took) → came_by l (took_as t) ≡ wholly → ⊥
  took_no l (message r) e = let z : ◌≡◌ {A = ℕ} 0 1 = cc e in omega arith
  took_no l (unable k) e = not_wholly (refusal k) l (eqb k 20) e

  wholly_by : (l : Bool) (a : Arrived) → came_by l (joined_by s Z st p room a) ≡ wholly → a ≡ whole
  wholly_by l whole e = refl
  wholly_by l (stored i) e = absurd (took_no l (took s Z (store_with Z st p (stored i)) room) e)
  wholly_by l again e = absurd (took_no l (took s Z (store_with Z st p again) room) e)
  wholly_by l as_taken e = absurd (took_no l (took s Z (store_with Z st p as_taken) room) e)
  wholly_by l (refused k) e = absurd (not_wholly k l (eqb k.number 20) e)

-- joined to the store with room for it
module _ (s : Settings) (st p : List ℕ) where
  abbrev to : List ℕ
  to = roomed s Z st p

  came_whole : came_of s Z st p ≡ wholly → (short p ≡ true) × (arrived s Z to p ≡ whole)
  unfolding came_of came_at joining_of
  came_whole e = go (short p) e
    where
      go : (b : Bool) → pick b (came_by (is_late (arrived s Z to p)) (joined_by s Z to p room (arrived s Z to p))) over ≡ wholly →
          (b ≡ true) × (arrived s Z to p ≡ whole)
      go true d = (refl, wholly_by s to p (is_late (arrived s Z to p)) (arrived s Z to p) d)
      go false d = let z : ◌≡◌ {A = ℕ} 0 1 = cc d in absurd (omega arith)

  whole_came : short p ≡ true → arrived s Z to p ≡ whole → came_of s Z st p ≡ wholly
  unfolding came_of came_at joining_of
  whole_came a b =
      ap (λ (k : Bool). pick k (came_by (is_late (arrived s Z to p)) (joined_by s Z to p room (arrived s Z to p))) over) a
      ∙ ap (λ (k : Arrived). came_by (is_late k) (joined_by s Z to p room k)) b

-- ---- among the frames

whole_frame : (p q : List ℕ) (y : Came) → Memᴰ (whole_packet p) (frames_by q y) → (y ≡ wholly) × (p ≡ q)
whole_frame p q over h = absurd (mathlib.Core.List.Memᴰ.not-nil h)
whole_frame p q (refused_by k) h = absurd (mathlib.Core.List.Memᴰ.not-nil h)
whole_frame p q kept h = absurd (mathlib.Core.List.Memᴰ.not-nil h)
whole_frame p q late h = absurd (mathlib.Core.List.Memᴰ.not-nil h)
whole_frame p q wholly h = go (mathlib.Core.List.Memᴰ.cases_cons h)
  where
    go : (whole_packet p ≡ whole_packet q) ⊎ Memᴰ (whole_packet p) [] → (wholly ≡ wholly) × (p ≡ q)
    go (inl e) = (refl, cc e)
    go (inr e) = absurd (mathlib.Core.List.Memᴰ.not-nil e)
whole_frame p q (message_of r) h = absurd (go (mathlib.Core.List.Memᴰ.cases_cons h))
  where
    go : (whole_packet p ≡ joined r.head.key r.head.counter (body_of r)) ⊎ Memᴰ (whole_packet p) [] → ⊥
    go (inl e) = let z : ◌≡◌ {A = ℕ} 0 1 = cc e in omega arith
    go (inr e) = mathlib.Core.List.Memᴰ.not-nil e

-- where a packet of a list stands
split_at : (l : List (List ℕ)) (p : List ℕ) → Memᴰ p l → (a : List (List ℕ)) × (b : List (List ℕ)) × (l ≡ a ++ p ∷ b)
split_at [] p h = absurd (mathlib.Core.List.Memᴰ.not-nil h)
split_at (q ∷ l) p h = go (split_at l p) (mathlib.Core.List.Memᴰ.cases_cons h)
  where
    go : (Memᴰ p l → (a : List (List ℕ)) × (b : List (List ℕ)) × (l ≡ a ++ p ∷ b)) → (p ≡ q) ⊎ Memᴰ p l →
        (a : List (List ℕ)) × (b : List (List ℕ)) × (q ∷ l ≡ a ++ p ∷ b)
    go ih (inl e) = ([], l, ap (λ (k : List ℕ). k ∷ l) (sym e))
    go ih (inr k) = let v = ih k in (q ∷ v.0, v.1, ap (λ (y : List (List ℕ)). q ∷ y) v.2)

-- the store that a packet of a recording is joined to is in order
for_kept : (s : Settings) → SettingsInRange s → (ps : List (List ℕ)) (p : List ℕ) → ((q : List ℕ) → Memᴰ q ps → Octets q) →
    Kept s Z cell_count (store_for s ps p)
for_kept s range ps p o =
    subst (Kept s Z cell_count) (to_store s ps p) (behind_keeps s Z cell_count one_octet (in_use_lem s range) (calls_to s ps p) (plain_to s ps p o))

pub recording_whole : RecordingWhole
recording_whole s range x o p = (there, back)
  where
    there : Memᴰ (whole_packet p) (frames_of s x) →
        Memᴰ p (packets_of x) × (length p ≤ longest) × ((read_packet s p).refusal.number ≡ 0) × (segmented p ≡ false)
    there h =
        let a = frame_at s (packets_of x) empty_store (whole_packet p) h in
        let st = store_along s a.before in
        let w0 = for_kept s range a.before p (λ q k. packets_octets (length x) x o q (subst (Memᴰ q) (sym a.place) (mathlib.Core.List.Memᴰ.append_left (a.packet ∷ a.after) k))) in
        let v = whole_frame p a.packet (came_of s Z st a.packet) a.its in
        let c = came_whole s st p (ap (came_of s Z st) v.1 ∙ v.0) in
        let w = in_whole s (store_for s a.before p) p cell_count (sym (arrived_is s Z cell_count (store_for s a.before p) w0 p) ∙ c.1) in
        let m : Memᴰ p (packets_of x) = subst (Memᴰ p) (sym a.place) (mathlib.Core.List.Memᴰ.append_right a.before (mathlib.Core.List.Memᴰ.head v.1)) in
        (m, leb-true (length p) longest c.0, w.0, w.1)

    back : Memᴰ p (packets_of x) × (length p ≤ longest) × ((read_packet s p).refusal.number ≡ 0) × (segmented p ≡ false) →
        Memᴰ (whole_packet p) (frames_of s x)
    back h =
        let a = split_at (packets_of x) p h.0 in
        let st = store_along s a.0 in
        let w0 = for_kept s range a.0 p (λ q k. packets_octets (length x) x o q (subst (Memᴰ q) (sym a.2) (mathlib.Core.List.Memᴰ.append_left (p ∷ a.1) k))) in
        let c =
        whole_came s st p (le-leb (length p) longest h.1)
        (arrived_is s Z cell_count (store_for s a.0 p) w0 p ∙ whole_in s (store_for s a.0 p) p cell_count h.2 h.3) in
        subst (λ (y : List (List ℕ)). Memᴰ (whole_packet p) (frames_from s empty_store y)) (sym a.2)
        (at_frame s a.0 p a.1 empty_store (whole_packet p)
        (subst (λ (y : Came). Memᴰ (whole_packet p) (frames_by p y)) (sym c) (mathlib.Core.List.Memᴰ.head refl)))
