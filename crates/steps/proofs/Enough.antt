-- SPEC G-19: to forget one record is enough. A store in order with a record has a free cell once the lowest record is forgotten, and a packet is
-- refused by 19 only by a store that has no free cell. A store without a record stays as it was, and so does the refusal.
-- Assumes nothing.
use Prim.Native.Nat.{ℕ, ◌+◌, ◌≤◌, ◌<◌}
use mathlib.Core.Path.{◌≡◌, refl, ap, sym, ◌∙◌}
use mathlib.Core.Logic.{◌⊎◌, inl, inr}
use mathlib.Core.Bool.{Bool, true, false}
use mathlib.Core.List.{List}
use mathlib.Core.Option.{Option, none, some}
use native.Mathlib.Omega.{arith}
use lib.ListN.{length}
use lib.Dec.{leb, ltb, eqb}
use borrow.Author.Tests.{lt-ltb}
use Rattle.octets.specs.Octets.{pick}
use Rattle.octets.proofs.Lists.{bool}
use Rattle.walk.specs.declared.Settings.{Settings}
use Rattle.walk.specs.Walk.{going, begun, refusal}
use Rattle.packet.specs.Answer.{Header}
use Rattle.packet.specs.Reading.{ended, refusal_of, refused_header, accepted_header, read_packet, segmented}
use Rattle.format.proofs.Refusals.{picked, OfFields, OfStart, ended_has}
use Rattle.cells.specs.Segments.{Seg, seg_of, same_rest}
use Rattle.cells.specs.Rows.{free}
use Rattle.cells.specs.Order.{is_free, cell_at, untaken_to, count_in, in_order, gate}
use Rattle.cells.specs.Messages.{cells_of, look}
use Rattle.cells.proofs.Listed.{among_below, lowest_some}
use Rattle.cells.proofs.Looks.{lowest_holds}
use Rattle.arrival.specs.Arriving.{Arrived, whole, stored, again, late, refused, placed, beside, lowest_free, segment_arrived, segment_came, arrived_in, arrived}
use Rattle.arrival.specs.Arriving.{store_with}
use Rattle.taking.specs.Forgetting.{is_record, lowest_record, forgot_in, forgot}
use Rattle.taking.proofs.Forgets.{forgot_open, forgot_tells, cell_forgotten}
use Rattle.join.specs.Joining.{joined_by, joining}
use Rattle.steps.specs.Stepping.{room, is_full, unrecorded, roomed}
use Rattle.steps.proofs.Kept.{unrecorded_count}
use Rattle.steps.proofs.Roomed.{took_full, roomed_as, roomed_full, unrecorded_none}

-- ---- reading is not refused by 19

abbrev Other : ℕ → Type 0
Other k = eqb k 19 ≡ false

fields : (s : Settings) → OfFields s Other
fields s =
    record {
      none = refl;
      six = refl;
      seven = refl;
      eight = refl;
      nine = refl;
      ten = λ e. refl;
      eleven = refl;
      twelve = refl;
      thirteen = refl;
      fourteen = refl;
      twenty_eight = refl;
    }

start : (p : List ℕ) → OfStart p Other
start p =
    record {
      fifteen = refl;
      one = refl;
      two = refl;
      three = refl;
      four = refl;
      five = λ e. refl;
      twenty_seven = λ e. refl;
    }

reading_other : (s : Settings) (p : List ℕ) → Other (read_packet s p).refusal.number
unfolding read_packet accepted_header refused_header refusal_of
reading_other s p =
    picked (λ (x : Header). Other x.refusal.number) (going (ended s p)) (accepted_header s p) (refused_header (refusal_of p (ended s p))) refl
    (ended_has s Other (fields s) p (start p))

gate_other : (s : Settings) (Z : ℕ) (st : List ℕ) → Other (gate s Z st)
unfolding gate
gate_other s Z st =
    picked Other (eqb (begun s).refused 0) (pick (in_order s Z st) 0 16) 15 (picked Other (in_order s Z st) 0 16 refl refl) refl

-- ---- an arrival

-- it is refused by 19
abbrev wants : Arrived → Bool
wants whole = false
wants (stored i) = false
wants again = false
wants late = false
wants (refused r) = eqb r.number 19

abbrev Finds : Arrived → Type 0
Finds b = wants b ≡ false

module _ (s : Settings) (Z : ℕ) (st p : List ℕ) where
  joined_full : (b : Arrived) → is_full (joined_by s Z st p room b) ≡ wants b
  joined_full whole = refl
  joined_full (stored i) = took_full s Z (store_with Z st p (stored i)) room
  joined_full again = took_full s Z (store_with Z st p again) room
  joined_full late = took_full s Z (store_with Z st p late) room
  joined_full (refused r) = refl

  module _ (i : ℕ) (l : i < count_in Z st) (f : cell_at s Z st i ≡ free) where
    abbrev n : ℕ
    n = count_in Z st

    free_below : lowest_free s Z st n < n
    free_below = let a = lowest_some (λ j. is_free (cell_at s Z st j)) n 0 i (among_below l) (ap is_free f) in omega arith

    segment_finds : (t : Seg) → Finds (segment_arrived s Z st n t)
    unfolding segment_arrived placed
    segment_finds t = go (look (cells_of s Z st n) t.key t.counter)
      where
        go : (o : Option Seg) → Finds (beside o t (pick (ltb (lowest_free s Z st n) n) (stored (lowest_free s Z st n)) (refused (refusal 19))))
        go none = ap (λ (b : Bool). wants (pick b (stored (lowest_free s Z st n)) (refused (refusal 19)))) (lt-ltb (lowest_free s Z st n) n free_below)
        go (some u) = picked Finds (same_rest u t) again (refused (refusal 18)) refl refl

    came_finds : (t : Seg) (long : ℕ) → Finds (segment_came s Z st n t long)
    unfolding segment_came
    came_finds t long =
        picked Finds (untaken_to s Z st n t.key t.counter) _ late
        (picked Finds (leb (2 + long) Z) (segment_arrived s Z st n t) (refused (refusal 17)) (segment_finds t) refl) refl

    arrival_finds : Finds (arrived s Z st p)
    unfolding arrived arrived_in
    arrival_finds =
        picked Finds (eqb (gate s Z st) 0) _ (refused (refusal (gate s Z st)))
        (picked Finds (eqb (read_packet s p).refusal.number 0) _ (refused (read_packet s p).refusal)
        (picked Finds (segmented p) (segment_came s Z st n (seg_of p (read_packet s p)) (length p)) whole (came_finds (seg_of p (read_packet s p)) (length p)) refl)
        (reading_other s p))
        (gate_other s Z st)

    -- a store with a free cell refuses no packet by 19
    pub free_joins : is_full (joining s Z st p room) ≡ false
    unfolding joining
    free_joins = joined_full (arrived s Z st p) ∙ arrival_finds

-- ---- the law

module _ (s : Settings) (Z : ℕ) (st p : List ℕ) where
  abbrev lowest : ℕ
  lowest = lowest_record s Z st (count_in Z st)

  lowest_forgot : gate s Z st ≡ 0 → lowest < count_in Z st → forgot s Z st lowest ≡ 0
  unfolding forgot_in lowest_record
  lowest_forgot g l =
      let a : is_record (cell_at s Z st lowest) ≡ true = lowest_holds (λ i. is_record (cell_at s Z st i)) (count_in Z st) 0 (omega arith) in
      sym (forgot_open s Z st lowest g) ∙ rw (lt-ltb lowest (count_in Z st) l, a) refl

  -- if there is a record, the packet is not refused by 19 in the end
  pub forgets_once : gate s Z st ≡ 0 → lowest_record s Z st (count_in Z st) < count_in Z st → is_full (joining s Z (roomed s Z st p) p room) ≡ false
  forgets_once g l = go (bool (is_full (joining s Z st p room)))
    where
      go : (is_full (joining s Z st p room) ≡ true) ⊎ (is_full (joining s Z st p room) ≡ false) → is_full (joining s Z (roomed s Z st p) p room) ≡ false
      go (inl e) =
          let c = unrecorded_count s Z st {n = count_in Z st} refl in
          ap (λ (x : List ℕ). is_full (joining s Z x p room)) (roomed_full s Z st p e)
          ∙ free_joins s Z (unrecorded s Z st) p lowest (omega arith) (cell_forgotten s Z st lowest (lowest_forgot g l))
      go (inr e) = ap (λ (x : List ℕ). is_full (joining s Z x p room)) (roomed_as s Z st p e) ∙ e

  -- if there is none, it is joined to the store as it is
  pub forgets_none : count_in Z st ≤ lowest_record s Z st (count_in Z st) → roomed s Z st p ≡ st
  forgets_none l = go (bool (is_full (joining s Z st p room)))
    where
      go : (is_full (joining s Z st p room) ≡ true) ⊎ (is_full (joining s Z st p room) ≡ false) → roomed s Z st p ≡ st
      go (inl e) = roomed_full s Z st p e ∙ unrecorded_none s Z st (λ z. let t = forgot_tells s Z st lowest z in omega arith)
      go (inr e) = roomed_as s Z st p e
