-- Recordings of which no packet is refused by 19: they have room, since a new segment is refused by 19 if no cell is free; and those of at
-- most 32 packets are such, since fewer packets than cells leave one free.
-- Assumes nothing.
use Prim.Native.Nat.{ℕ, ◌+◌, ◌≤◌}
use mathlib.Core.Path.{◌≡◌, refl, ap, sym, ◌∙◌, subst}
use mathlib.Core.Logic.{◌⊎◌, inl, inr}
use mathlib.Core.Bool.{Bool, true, false, false≢true}
use mathlib.Core.Option.{Option, none}
use mathlib.Core.List.Memᴰ
use mathlib.Core.List.{List, [], ◌∷◌, Memᴰ}
use native.Mathlib.Omega.{arith}
use lib.ListN.{length, length-append}
use lib.Dec.{eqb, leb, ltb}
use borrow.Author.Tests.{le-leb}
use Rattle.octets.specs.Octets.{pick, Octets}
use Rattle.octets.proofs.Lists.{bool}
use Rattle.walk.specs.Walk.{refusal}
use Rattle.packet.specs.Reading.{read_packet, segmented}
use Rattle.cells.specs.Segments.{Seg, seg_of}
use Rattle.walk.specs.declared.Settings.{Settings}
use Rattle.packet.specs.Format.{SettingsInRange}
use Rattle.cells.specs.Rows.{Cell, free, held, taken, broken}
use Rattle.cells.specs.Order.{is_free, cell_at, untaken_to}
use Rattle.cells.specs.Messages.{look, or}
use Rattle.arrival.specs.Arriving.{Arrived, whole, stored, late as as_taken, refused as refused19, lowest_free, placed, beside, segment_arrived, segment_came, arrived_in}
use Rattle.join.specs.Joining.{joined_by, joining as joining_of}
use Rattle.steps.specs.Stepping.{room, is_full, unrecorded, roomed}
use Rattle.steps.proofs.Enough.{free_joins}
use Rattle.recording.specs.Recording.{cell_count, empty_store}
use Rattle.demand3.specs.Cells.{has_free}
use Rattle.demand3.specs.Calls.{Plain}
use Rattle.demand3.specs.Presupposed.{cells_in}
use Rattle.demand3.proofs.Distinct.{listed_at}
use Rattle.demand3.proofs.Steps.{Kept, arrived_is}
use Rattle.demand3.proofs.Carried.{behind_keeps}
use Rattle.demand3.proofs.After.{has_free_lem}
use Rattle.demand3.proofs.Roomy.{free_left}
use Rattle.tiles.specs.Along.{packets_of, store_along}
use Rattle.tiles.specs.Written.{store_for, RoomAlong}
use Rattle.tiles.specs.Once.{NoneFull, RecordingFew}
use Rattle.tiles.proofs.Framing.{Z, packets_octets}
use Rattle.tiles.proofs.Joinings.{calls_of, calls_store}
use Rattle.tiles.proofs.Comes.{in_use_lem, one_octet, plain_calls}
use Rattle.tiles.proofs.Rooms.{calls_most}

-- ---- no packet refused by 19: there is room

arrived_19 : (s : Settings) (st p : List ℕ) → (read_packet s p).refusal.number ≡ 0 → segmented p ≡ true → 2 + length p ≤ Z →
    untaken_to s Z st cell_count (seg_of p (read_packet s p)).key (seg_of p (read_packet s p)).counter ≡ true →
    look (cells_in s Z cell_count st) (seg_of p (read_packet s p)).key (seg_of p (read_packet s p)).counter ≡ none →
    ltb (lowest_free s Z st cell_count) cell_count ≡ false → arrived_in s Z st cell_count p ≡ refused19 (refusal 19)
unfolding arrived_in segment_came segment_arrived placed
arrived_19 s st p ok seg fit out new none_free =
    ap (λ (k : ℕ). pick (eqb k 0) (pick (segmented p) (segment_came s Z st n t (length p)) whole) (refused19 (read_packet s p).refusal)) ok
    ∙ ap (λ (b : Bool). pick b (segment_came s Z st n t (length p)) whole) seg
    ∙ ap (λ (b : Bool). pick b (pick (leb (2 + length p) Z) (segment_arrived s Z st n t) (refused19 (refusal 17))) as_taken) out
    ∙ ap (λ (b : Bool). pick b (segment_arrived s Z st n t) (refused19 (refusal 17))) (le-leb (2 + length p) Z fit)
    ∙ ap (λ (o : Option Seg). beside o t (placed n (lowest_free s Z st n))) new
    ∙ ap (λ (b : Bool). pick b (stored (lowest_free s Z st n)) (refused19 (refusal 19))) none_free
  where
    n : ℕ
    n = cell_count

    t : Seg
    t = seg_of p (read_packet s p)

-- a new segment is refused by 19 if no cell is free
full_19 : (s : Settings) (st p : List ℕ) → Kept s Z cell_count st → (read_packet s p).refusal.number ≡ 0 → segmented p ≡ true → 2 + length p ≤ Z →
    untaken_to s Z st cell_count (seg_of p (read_packet s p)).key (seg_of p (read_packet s p)).counter ≡ true →
    look (cells_in s Z cell_count st) (seg_of p (read_packet s p)).key (seg_of p (read_packet s p)).counter ≡ none →
    has_free (cells_in s Z cell_count st) ≡ false → is_full (joining_of s Z st p room) ≡ true
unfolding joining_of
full_19 s st p k ok seg fit out new no-free = ap (λ (a : Arrived). is_full (joined_by s Z st p room a)) (arrived_is s Z cell_count st k p ∙ refused_19)
  where
    refused_19 : arrived_in s Z st cell_count p ≡ refused19 (refusal 19)
    refused_19 = arrived_19 s st p ok seg fit out new (sym (has_free_lem s Z st cell_count) ∙ no-free)

pub room_along : (s : Settings) → SettingsInRange s → (x : List ℕ) → Octets x → NoneFull s x → RoomAlong s x
unfolding roomed
room_along s range x o never before after p e ok seg fit out new = ap (λ (y : List ℕ). has_free (cells_in s Z cell_count y)) same ∙ go (bool (has_free (cells_in s Z cell_count st)))
  where
    st : List ℕ
    st = store_along s before

    same : store_for s before p ≡ st
    same = ap (λ (b : Bool). pick b (unrecorded s Z st) st) (never before after p e)

    kept' : Kept s Z cell_count st
    kept' =
        subst (Kept s Z cell_count) (calls_store s before)
        (behind_keeps s Z cell_count one_octet (in_use_lem s range) (calls_of s before)
        (plain_calls s before (λ q k. packets_octets (length x) x o q (subst (Memᴰ q) (sym e) (Memᴰ.append_left (p ∷ after) k)))))

    go : (has_free (cells_in s Z cell_count st) ≡ true) ⊎ (has_free (cells_in s Z cell_count st) ≡ false) → has_free (cells_in s Z cell_count st) ≡ true
    go (inl f) = f
    go (inr f) =
        absurd
        (false≢true
        (sym (never before after p e)
        ∙ full_19 s st p kept' ok seg fit
        (ap (λ (y : List ℕ). untaken_to s Z y cell_count (seg_of p (read_packet s p)).key (seg_of p (read_packet s p)).counter) (sym same) ∙ out)
        (ap (λ (y : List ℕ). look (cells_in s Z cell_count y) (seg_of p (read_packet s p)).key (seg_of p (read_packet s p)).counter) (sym same) ∙ new)
        f))

-- ---- recordings of at most 32 packets

free_or : (x : Cell) → (x ≡ free) ⊎ (is_free x ≡ false)
free_or free = inl refl
free_or (held t) = inr refl
free_or (taken g) = inr refl
free_or broken = inr refl

free_in : (cs : List Cell) → has_free cs ≡ true → Memᴰ free cs
unfolding has_free
free_in [] e = absurd (false≢true e)
free_in (x ∷ cs) e = go (free_in cs) (free_or x) e
  where
    go : (has_free cs ≡ true → Memᴰ free cs) → (x ≡ free) ⊎ (is_free x ≡ false) → or (is_free x) (has_free cs) ≡ true → Memᴰ free (x ∷ cs)
    go ih (inl d) f = Memᴰ.head (sym d)
    go ih (inr d) f = Memᴰ.tail (ih (sym (ap (λ (b : Bool). or b (has_free cs)) d) ∙ f))

pub recording_few : RecordingFew
recording_few s range x o l before after p e =
    let v = listed_at (cell_at s Z st) cell_count 0 free (free_in (cells_in s Z cell_count st) some_free') in
    free_joins s Z st p v.0 (omega (arith, v.2, kept'.count)) (sym v.3)
  where
    st : List ℕ
    st = store_along s before

    plain : Plain (calls_of s before)
    plain = plain_calls s before (λ q k. packets_octets (length x) x o q (subst (Memᴰ q) (sym e) (Memᴰ.append_left (p ∷ after) k)))

    kept' : Kept s Z cell_count st
    kept' = subst (Kept s Z cell_count) (calls_store s before) (behind_keeps s Z cell_count one_octet (in_use_lem s range) (calls_of s before) plain)

    some_free' : has_free (cells_in s Z cell_count st) ≡ true
    some_free' =
        ap (λ (y : List ℕ). has_free (cells_in s Z cell_count y)) (sym (calls_store s before))
        ∙ free_left Z one_octet s cell_count (in_use_lem s range) (calls_of s before) plain
        (let many : length (packets_of x) ≡ length before + length (p ∷ after) = ap length e ∙ length-append before (p ∷ after) in
        omega (arith, calls_most s before empty_store))
