-- A message that was taken, over the store's octets: it is out until its record is forgotten, and no call takes it again.
-- Assumes nothing.
use Prim.Native.Nat.{ℕ, ◌≤◌, ◌<◌}
use mathlib.Core.Path.{◌≡◌, refl, ap, sym, ◌∙◌, subst}
use mathlib.Core.Bool.{Bool, true}
use mathlib.Core.Option.{some, some-ne-none}
use mathlib.Core.List.Memᴰ
use mathlib.Core.List.{List, [], ◌∷◌, ◌++◌, map, append_assoc, Memᴰ}
use native.Mathlib.Omega.{arith}
use lib.ListN.{length}
use Rattle.walk.specs.declared.Settings.{Settings}
use Rattle.packet.specs.Numbers.{next_counter, steps_most}
use Rattle.packet.specs.Reading.{read_packet, segmented}
use Rattle.cells.specs.Segments.{seg_of}
use Rattle.cells.specs.Rows.{Cell, held}
use Rattle.cells.specs.Order.{cell_at, cell_size}
use Rattle.cells.specs.Messages.{Run}
use Rattle.arrival.specs.Arriving.{late, arrived}
use Rattle.taking.specs.Taking.{message, took}
use Rattle.demand3.specs.Complete.{Held, Single}
use Rattle.demand3.specs.Traffic.{Event, arrives, takes, empty, taken_from, stepped, after}
use Rattle.demand3.specs.Promise.{Untaken as CellUntaken, Remembered as CellRemembered, Out as CellOut}
use Rattle.demand3.specs.Base.{Traffic01}
use Rattle.demand3.specs.Calls.{Call, Plain, out_of, draws, store_at, took_by, store_by, store_after}
use Rattle.demand3.specs.Sendings.{Sending, many_of, segment_at, key_in, counter_in, IsCut}
use Rattle.demand3.specs.Presupposed.{Untaken, empty_store, store_behind, cells_in}
use Rattle.demand3.specs.Whole.{Out, WholeRecorded}
use Rattle.demand3.proofs.Untouched.{late_same}
use Rattle.demand3.proofs.Ranges.{recorded_at}
use Rattle.demand3.proofs.Takings.{single_after, single_empty}
use Rattle.demand3.proofs.Keeps.{after_append}
use Rattle.demand3.proofs.Base.{recorded01}
use Rattle.demand3.proofs.Sents.{listed_in, sent_of, own_in}
use Rattle.demand3.proofs.Plain.{Pure, plain_at, plain_right, plain_rest, plain_none}
use Rattle.demand3.proofs.Steps.{Kept, arrived_is, came_late}
use Rattle.demand3.proofs.Events.{before, drawing, events_in, events_append}
use Rattle.demand3.proofs.Simulates.{by_took, took_by_lem, by_keeps, by_cells, run_keeps, run_cells}
use Rattle.demand3.proofs.Carried.{traffic_of, of_record, remembered_of, behind_cells, behind_keeps}

module _ (s : Settings) (Z n : ℕ) where
  -- ---- a call that takes a message, among others

  module _ (st : List ℕ) (k : Kept s Z n st) (x y : List Call) (c : Call) (o : Plain x) (q : Pure c) (r : Run) (t : took_by s Z (store_after s Z st x) c ≡ some (message r)) where
    abbrev at : List ℕ
    at = store_after s Z st x

    abbrev ahead : List Event
    ahead = events_in s Z st x ++ before s Z c

    b : (draws s Z at c ≡ true) × (took s Z (store_at s Z at c) (length (out_of c)) ≡ message r)
    b = by_took s Z at c r t

    pub its_events : events_in s Z st (x ++ c ∷ y) ≡ ahead ++ takes (length (out_of c)) ∷ events_in s Z (store_by s Z at c) y
    unfolding events_in
    its_events =
        events_append s Z x (c ∷ y) st
        ∙ ap (λ (d : Bool). events_in s Z st x ++ ((before s Z c ++ drawing s Z d c) ++ events_in s Z (store_by s Z at c) y)) b.0
        ∙ ap (λ (l : List Event). events_in s Z st x ++ l)
        (append_assoc (before s Z c) (takes (length (out_of c)) ∷ []) (events_in s Z (store_by s Z at c) y))
        ∙ sym (append_assoc (events_in s Z st x) (before s Z c) (takes (length (out_of c)) ∷ events_in s Z (store_by s Z at c) y))

    its_cells : after next_counter steps_most (cells_in s Z n st) ahead ≡ after next_counter steps_most (cells_in s Z n at) (before s Z c)
    its_cells =
        after_append next_counter steps_most (cells_in s Z n st) (events_in s Z st x) (before s Z c)
        ∙ ap (λ (l : List Cell). after next_counter steps_most l (before s Z c)) (sym (run_cells s Z n x st k o))

    pub its_taking : taken_from next_counter steps_most (after next_counter steps_most (cells_in s Z n st) ahead) (length (out_of c)) ≡ message r
    its_taking =
        let d : taken_from next_counter steps_most (after next_counter steps_most (cells_in s Z n at) (before s Z c)) (length (out_of c)) ≡ message r =
        cc (sym (took_by_lem s Z n at (run_keeps s Z n x st k o) c q b.0) ∙ t) in
        ap (λ (l : List Cell). taken_from next_counter steps_most l (length (out_of c))) its_cells ∙ d

    pub cells_then : cells_in s Z n (store_by s Z at c) ≡
        stepped next_counter steps_most (after next_counter steps_most (cells_in s Z n st) ahead) (takes (length (out_of c)))
    unfolding after
    cells_then =
        by_cells s Z n at (run_keeps s Z n x st k o) c q
        ∙ ap (λ (d : Bool). after next_counter steps_most (cells_in s Z n at) (before s Z c ++ drawing s Z d c)) b.0
        ∙ after_append next_counter steps_most (cells_in s Z n at) (before s Z c) (takes (length (out_of c)) ∷ [])
        ∙ ap (λ (l : List Cell). stepped next_counter steps_most l (takes (length (out_of c)))) (sym its_cells)

  -- none of the events takes the message: none of the calls does
  pub of_untaken : (m : Sending) (st : List ℕ) (cs : List Call) → Kept s Z n st → Plain cs →
      CellUntaken next_counter steps_most (sent_of s m) (cells_in s Z n st) (events_in s Z st cs) → Untaken s Z m st cs
  of_untaken m st cs k pl u x y c e t =
      let f = plain_at cs x y c e pl in
      u (events_in s Z st x ++ before s Z c) (events_in s Z (store_by s Z (store_after s Z st x) c) y) (length (out_of c)) t.0
      (ap (events_in s Z st) e ∙ its_events st k x y c f.0 f.1 t.0 t.1) (its_taking st k x y c f.0 f.1 t.0 t.1) t.2

-- ---- a message that was taken

module _ (Z : ℕ) (one : 1 ≤ Z) where
  pub whole_recorded : WholeRecorded Z
  unfolding store_after events_in after
  whole_recorded s n u ms x y c g m h t w = (
    outside,
    of_untaken s Z n m then y kept' later (subst (λ (l : List Cell). CellUntaken next_counter steps_most (sent_of s m) l sev) (sym then_are) v.1),
  )
    where
      zeros : List ℕ
      zeros = empty_store Z n

      pl : Plain x × Pure c
      pl = plain_at (x ++ c ∷ y) x y c refl g.octets

      later : Plain y
      later = plain_rest c y (plain_right x (c ∷ y) g.octets)

      begun : Kept s Z n zeros
      begun = behind_keeps s Z n one u [] plain_none

      st : List ℕ
      st = store_behind s Z n x

      then : List ℕ
      then = store_by s Z st c

      kept' : Kept s Z n then
      kept' = by_keeps s Z n st (behind_keeps s Z n one u x pl.0) c pl.1

      k : IsCut s Z m
      k = g.cut m h

      bev : List Event
      bev = events_in s Z zeros x ++ before s Z c

      sev : List Event
      sev = events_in s Z then y

      long : ℕ
      long = length (out_of c)

      es : List Event
      es = bev ++ takes long ∷ sev

      events_are : events_in s Z zeros (x ++ c ∷ y) ≡ es
      events_are = its_events s Z n zeros begun x y c pl.0 pl.1 t.0 t.1

      tr : Traffic01 (map (sent_of s) ms) es
      tr = traffic_of s Z ms (x ++ c ∷ y) g zeros es (λ t' k'. subst (Memᴰ (arrives t')) (sym events_are) k')

      first_are : cells_in s Z n zeros ≡ empty n
      first_are = behind_cells s Z n one u [] plain_none

      then_are : cells_in s Z n then ≡ stepped next_counter steps_most (after next_counter steps_most (empty n) bev) (takes long)
      then_are =
          cells_then s Z n zeros begun x y c pl.0 pl.1 t.0 t.1
          ∙ ap (λ (l : List Cell). stepped next_counter steps_most (after next_counter steps_most l bev) (takes long)) first_are

      v : CellOut next_counter steps_most (sent_of s m) (after next_counter steps_most (empty n) es) ×
          CellUntaken next_counter steps_most (sent_of s m) (stepped next_counter steps_most (after next_counter steps_most (empty n) bev) (takes long)) sev
      v =
          recorded01 n (map (sent_of s) ms) bev sev long t.0 tr (sent_of s m) (Memᴰ.map (sent_of s) h)
          (ap (λ (l : List Cell). taken_from next_counter steps_most (after next_counter steps_most l bev) long) (sym first_are)
          ∙ its_taking s Z n zeros begun x y c pl.0 pl.1 t.0 t.1)
          t.2
          (subst (λ (l : List Cell). CellRemembered next_counter steps_most (sent_of s m) l sev) then_are (remembered_of s Z n m k then y kept' later w))

      now : List ℕ
      now = store_behind s Z n (x ++ c ∷ y)

      kept_now : Kept s Z n now
      kept_now = behind_keeps s Z n one u (x ++ c ∷ y) g.octets

      cells_are : cells_in s Z n now ≡ after next_counter steps_most (empty n) es
      cells_are = behind_cells s Z n one u (x ++ c ∷ y) g.octets ∙ ap (after next_counter steps_most (empty n)) events_are

      o : CellOut next_counter steps_most (sent_of s m) (cells_in s Z n now)
      o = subst (CellOut next_counter steps_most (sent_of s m)) (sym cells_are) v.0

      single : Single (cells_in s Z n now)
      single = subst Single (sym cells_are) (single_after next_counter steps_most es (empty n) (single_empty n))

      repeats' : (p : List ℕ) → (read_packet s p).refusal.number ≡ 0 → segmented p ≡ true → (seg_of p (read_packet s p)).key ≡ key_in s m →
          (i : ℕ) → i < many_of s m → (seg_of p (read_packet s p)).counter ≡ counter_in s m i → arrived s Z now p ≡ late
      repeats' p a b e i l f =
          arrived_is s Z n now kept_now p
          ∙ came_late s Z n now kept_now p a b (recorded_at next_counter (cells_in s Z n now) e f ∙ o.late (segment_at s m i) (own_in s Z m k i l))

      gone' : (i : ℕ) → i < many_of s m → (j : ℕ) → j < n → cell_at s Z now j ≡ held (segment_at s m i) → ⊥
      gone' i l j lj e =
          let there : Held (segment_at s m i) (cells_in s Z n now) =
          subst (λ (z : Cell). Memᴰ z (cells_in s Z n now)) e (listed_in (cell_at s Z now) n 0 j (omega arith) (omega arith)) in
          some-ne-none (segment_at s m i) (sym (single (segment_at s m i) there) ∙ o.gone (segment_at s m i) (own_in s Z m k i l))

      outside : Out s Z n m now
      outside =
          record {
            noted = (o.noted.0, of_record s Z n m k now o.noted.0 o.noted.1);
            repeats = λ p a b e i l f. (repeats' p a b e i l f, late_same s Z now p (repeats' p a b e i l f));
            gone = gone';
          }

-- ---- cells of 1,024 octets

pub recorded·whole : WholeRecorded cell_size
recorded·whole = whole_recorded cell_size (omega arith)
