-- Demand 3 over the store's octets, from demand 3 over its cells; and what of it holds without the room.
-- Assumes nothing.
use Prim.Native.Nat.{ℕ, ◌≤◌}
use mathlib.Core.Path.{◌≡◌, refl, ap, sym, ◌∙◌, subst}
use mathlib.Core.Logic.{◌⊎◌, inl, inr}
use mathlib.Core.Bool.{true}
use mathlib.Core.List.Memᴰ
use mathlib.Core.List.{List, ◌∷◌, ◌++◌, map, Memᴰ}
use native.Mathlib.Omega.{arith}
use lib.ListN.{length}
use Rattle.packet.specs.Numbers.{next_counter, steps_most}
use Rattle.cells.specs.Segments.{Seg}
use Rattle.cells.specs.Rows.{Cell}
use Rattle.cells.specs.Order.{cell_size}
use Rattle.taking.specs.Taking.{message, took}
use Rattle.demand3.specs.Traffic.{Sent, Event, arrives, empty, taken_from, after}
use Rattle.demand3.specs.Promise.{Original, Promise as CellPromise}
use Rattle.demand3.specs.Base.{Done01, Traffic01}
use Rattle.demand3.specs.Calls.{Plain, out_of, store_at, store_by, draws}
use Rattle.demand3.specs.Sendings.{IsCut}
use Rattle.demand3.specs.Presupposed.{empty_store, store_behind, cells_in}
use Rattle.demand3.specs.Whole.{WholeDemand3, WholeSoundness, WholeGenuine}
use Rattle.demand3.proofs.Keeps.{after_append}
use Rattle.demand3.proofs.Base.{genuine01}
use Rattle.demand3.proofs.Sents.{sent_of}
use Rattle.demand3.proofs.Steps.{Kept}
use Rattle.demand3.proofs.Events.{before, drawing, events_in, outs_append, events_append}
use Rattle.demand3.proofs.Simulates.{at_keeps, took_by_lem, by_took}
use Rattle.demand3.proofs.Carried.{traffic_of, came_all, all_came, behind_cells, behind_keeps, room_of_lem}
use Rattle.demand3.proofs.Plain.{Pure, plain_at}
use Rattle.demand3.proofs.Delivers.{delivers}
use Rattle.demand3.proofs.Now.{done_of_lem, of_done, sound_now, promise_now, delivery_now}

-- ---- the whole

module _ (Z : ℕ) (one : 1 ≤ Z) where
  -- demand 3
  pub whole_demand3 : WholeDemand3 Z
  whole_demand3 s n u ms first since g m h a w =
      record {
        complete = (
          λ d. all_came s Z ms since (store_behind s Z n first) m k (v.complete.0 (done_of_lem Z one s n u m k (cells_in s Z n st) d)),
          λ f. of_done Z one s n u m k (cells_in s Z n st)
              (v.complete.1
              (came_all s Z ms since (first ++ since) g.traffic (λ p x. (x.0, Memᴰ.append_right first x.1, x.2)) (store_behind s Z n first) m h f)),
        );
        delivery = delivery_now Z one s n u ms m h first a since g.traffic;
        stays = λ more. outs_append s Z (first ++ since) more (empty_store Z n);
      }
    where
      k : IsCut s Z m
      k = g.traffic.cut m h

      st : List ℕ
      st = store_behind s Z n (first ++ since)

      v : CellPromise next_counter steps_most (Done01 (sent_of s m)) n (sent_of s m) (events_in s Z (store_behind s Z n first) since) (cells_in s Z n st)
      v = promise_now Z one s n u ms m h first a since g.traffic (room_of_lem s Z n one u (first ++ since) g.traffic.octets g.room) w

  -- without the room
  pub whole_soundness : WholeSoundness Z
  whole_soundness s n u ms first since g m h a = (
    λ d.
        all_came s Z ms since (store_behind s Z n first) m (g.cut m h)
        ((sound_now Z one s n u ms m h first a since g).0
        (done_of_lem Z one s n u m (g.cut m h) (cells_in s Z n (store_behind s Z n (first ++ since))) d)),
    delivery_now Z one s n u ms m h first a since g,
  )

  -- whatever a call hands out under a message's key is one of the messages, whole
  pub whole_genuine : WholeGenuine Z
  unfolding events_in
  whole_genuine s n u ms x y c g r e m h key =
      let w = genuine01 n (map (sent_of s) ms) es tr (length (out_of c)) r taken (sent_of s m) (Memᴰ.map (sent_of s) h) key in
      let v = Memᴰ.of_map (sent_of s) ms w.1 in (
        v.0,
        v.1,
        ap (λ (z : Sent). z.key) v.2 ∙ w.2,
        delivers s Z n v.0 (g.cut v.0 v.1) st c (at_keeps s Z n st kept c pl.1) b.0 r b.1
            (subst (λ (z : Sent). Original next_counter z r) (sym v.2) w.3),
      )
    where
      st : List ℕ
      st = store_behind s Z n x

      pl : Plain x × Pure c
      pl = plain_at (x ++ c ∷ y) x y c refl g.octets

      kept : Kept s Z n st
      kept = behind_keeps s Z n one u x pl.0

      es : List Event
      es = events_in s Z (empty_store Z n) x ++ before s Z c

      b : (draws s Z st c ≡ true) × (took s Z (store_at s Z st c) (length (out_of c)) ≡ message r)
      b = by_took s Z st c r e

      cells_are : after next_counter steps_most (empty n) es ≡ after next_counter steps_most (cells_in s Z n st) (before s Z c)
      cells_are =
          after_append next_counter steps_most (empty n) (events_in s Z (empty_store Z n) x) (before s Z c)
          ∙ ap (λ (l : List Cell). after next_counter steps_most l (before s Z c)) (sym (behind_cells s Z n one u x pl.0))

      taken : taken_from next_counter steps_most (after next_counter steps_most (empty n) es) (length (out_of c)) ≡ message r
      taken =
          let d : taken_from next_counter steps_most (after next_counter steps_most (cells_in s Z n st) (before s Z c)) (length (out_of c)) ≡ message r =
          cc (sym (took_by_lem s Z n st kept c pl.1 b.0) ∙ e) in
          ap (λ (l : List Cell). taken_from next_counter steps_most l (length (out_of c))) cells_are ∙ d

      into : (t : Seg) → Memᴰ (arrives t) (events_in s Z (empty_store Z n) x) ⊎ Memᴰ (arrives t) (before s Z c) →
          Memᴰ (arrives t) (events_in s Z (empty_store Z n) x ++ events_in s Z st (c ∷ y))
      into t (inl k) = Memᴰ.append_left (events_in s Z st (c ∷ y)) k
      into t (inr k) =
          Memᴰ.append_right (events_in s Z (empty_store Z n) x)
          (Memᴰ.append_left (events_in s Z (store_by s Z st c) y) (Memᴰ.append_left (drawing s Z (draws s Z st c) c) k))

      tr : Traffic01 (map (sent_of s) ms) es
      tr =
          traffic_of s Z ms (x ++ c ∷ y) g (empty_store Z n) es
          (λ t k.
          subst (Memᴰ (arrives t)) (sym (events_append s Z x (c ∷ y) (empty_store Z n)))
          (into t (Memᴰ.append_cases (events_in s Z (empty_store Z n) x) k)))

-- ---- cells of 1,024 octets

pub demand3·whole : WholeDemand3 cell_size
demand3·whole = whole_demand3 cell_size (omega arith)

pub soundness·whole : WholeSoundness cell_size
soundness·whole = whole_soundness cell_size (omega arith)

pub genuine·whole : WholeGenuine cell_size
genuine·whole = whole_genuine cell_size (omega arith)
